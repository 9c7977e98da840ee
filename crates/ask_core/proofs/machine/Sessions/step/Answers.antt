use Rattle.std.proofs.Common.{◌<◌, refl, sym, length, None, arith}
use Rattle.ask_core.proofs.Evaluated.{ok_then}
use Rattle.ask_core.proofs.FrugalSteps.{look_frugal, work_frugal}
use Rattle.ask_core.proofs.StateSteps.{value_at, look_step, work_step}
use Rattle.ask_core.proofs.machine.Sessions.step.Goals as goal

pub returns-in-Begin : goal.returns-in-Begin
returns-in-Begin g c = record {
  step = rw c.in-Begin.is c.begin.ensures.step;
  frugal = rw c.in-Begin.is (ok_then c.begin.result (λ steps. steps (g.L.Ledger.count c.args.leaves.now)) c.begin.ensures.frugal);
}

pub returns-in-Look : goal.returns-in-Look
returns-in-Look g c =
    let runs = c.args.self.now.runs.items in
    let named = rw c.in-Look.is at c.requires.lawful in
    let within : c.in-Look.session < length runs = omega (arith, c.requires.places.of_runs, named.1) in
    let at = sym (value_at runs c.in-Look.session c.index_mut.result.now None within c.index_mut.ensures.value) in
    record {
      step = λ opening state h. rw c.in-Look.is (look_step opening c.args.self.now.book c.look.new.book c.index_mut.result.now c.look.new.place runs c.args.self.now.transcripts.items state
          c.in-Look.session c.look.ensures.place c.look.ensures.opening c.look.ensures.log named.1 at h);
      frugal = rw c.in-Look.is (look_frugal c.args.self.now _ c.in-Look.session c.index_mut.result.now c.look.new.place within at refl c.look.ensures.place (g.L.Ledger.count c.args.leaves.now));
    }

pub returns-in-Work : goal.returns-in-Work
returns-in-Work g c =
    let runs = c.args.self.now.runs.items in
    let named = rw c.in-Work.is at c.requires.lawful in
    let within : c.in-Work.session < length runs = omega (arith, c.requires.places.of_runs, named.1) in
    let at = sym (value_at runs c.in-Work.session c.index_mut-in-Work.result.now None within c.index_mut-in-Work.ensures.value) in
    record {
      step = λ opening state h. rw c.in-Work.is (work_step opening c.args.self.now.book c.index_mut-in-Work.result.now c.work.new.place _ _ runs c.args.self.now.transcripts.items state
          c.in-Work.session c.work.ensures.place named.1 at h);
      frugal = rw c.in-Work.is (work_frugal c.args.self.now _ c.in-Work.session c.index_mut-in-Work.result.now c.work.new.place within at refl _ _ c.work.ensures.place refl);
    }

pub returns-in-Fill : goal.returns-in-Fill
returns-in-Fill g c = record {
  step = rw c.in-Fill.is c.fill.ensures.step;
  frugal = rw c.in-Fill.is (ok_then c.fill.result (λ steps. steps (g.L.Ledger.count c.args.leaves.now)) c.fill.ensures.frugal);
}

pub returns-in-Commit : goal.returns-in-Commit
returns-in-Commit g c = record {
  step = rw c.in-Commit.is c.commit.ensures.step;
  frugal = rw c.in-Commit.is (ok_then c.commit.result (λ steps. steps (g.L.Ledger.count c.args.leaves.now)) c.commit.ensures.frugal);
}

pub returns-in-Newest : goal.returns-in-Newest
returns-in-Newest g c = record {
  step = rw c.in-Newest.is c.newest.ensures.step;
  frugal = rw c.in-Newest.is (ok_then c.newest.result (λ steps. steps (g.L.Ledger.count c.args.leaves.now)) c.newest.ensures.frugal);
}
