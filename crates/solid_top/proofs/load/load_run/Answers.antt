use Rattle.std.proofs.Common.{◌∙◌, ◌-◌, ℕ, List, ap, sym, subst, refl, length, drop, arith}
use Rattle.std.proofs.lemmas.List.{length-take, take_rest}
use Rattle.solid_base.specs.declared.entities.Model.{Model}
use Rattle.script_lines.specs.Scripts.{IsScript}
use Rattle.solid_desk.specs.InOrder.{IsRun}
use Rattle.solid_top.proofs.LoadBytes.{bytes_short, read_back}
use Rattle.solid_top.proofs.load.load_run.Goals as goal

pub read_file-requires : goal.read_file-requires
read_file-requires c =
    let size = ap (length {A = ℕ}) (c.as_slice.ensures ∙ c.in_ok-input.ensures) in
    let short = bytes_short c.args.n c.requires.0 c.requires.1 in
    omega (arith, size, short)

pub count_script-requires-clause-few : goal.count_script-requires-clause-few
count_script-requires-clause-few c =
    let bytes = c.as_slice-2.result.now in
    let end = c.in-Ok.read.end in
    let size = ap (length {A = ℕ}) (c.as_slice-2.ensures ∙ c.in_ok-input.ensures) in
    let short = bytes_short c.args.n c.requires.0 c.requires.1 in
    let rest = length-take (length bytes - end) (drop end bytes) in
    omega (arith, size, short, rest)

pub returns : goal.returns
returns c =
    let read = c.in-Ok.read in
    let log = c.count_script.new.book.log in
    let back = read_back c.args.n c.as_slice.result.now read.model read.end c.requires.0 c.requires.1 (c.as_slice.ensures ∙ c.in_ok-input.ensures) c.in-Ok.ensures.reads in
    let opened = c.in_ok-book.ensures.opening in
    let (lines, outcomes, script, run, memory, inside, outside, undecided) = rw (take_rest, opened) at c.in_ok-counts.ensures.done in
    let text = rw (inside, outside, undecided, c.len.ensures, c.log.ensures) at c.in_ok-load_text.ensures in
    let same = c.as_slice-2.ensures ∙ sym c.as_slice.ensures in (
      refl,
      record {
        lines = lines;
        outcomes = outcomes;
        log = log;
        input = back.replay lines (subst (λ (bytes : List ℕ). IsScript (drop read.end bytes) lines) same script);
        run = subst (λ (m : Model). IsRun m lines outcomes log) back.model_is run;
        memory = memory;
        printed = text;
      },
    )
