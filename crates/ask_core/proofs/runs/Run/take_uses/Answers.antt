use Rattle.std.proofs.Common.{◌≡◌, List, length, take, Some, sym, ap, ◌∙◌, subst}
use Rattle.std.specs.Arc.{arc_value}
use Rattle.solid_eval.specs.Uses.{Use}
use Rattle.memo_graph.specs.declared.key.Key.{Key}
use Rattle.memo_graph.specs.Memos.{verdict_of}
use Rattle.ask_core.specs.Books.{key_verdict}
use Rattle.ask_core.specs.Runs.{RunFacts, IsTaken, left_in_cell, looked, use_keys, with_taken, IsOwnKey}
use Rattle.ask_core.specs.Rounds.{done_of}
use Rattle.ask_core.specs.RunStates.{facts_of, IsRun, left_after}
use Rattle.ask_core.specs.declared.course.Course.{Course}
use Rattle.ask_core.specs.declared.runs.Stage.TheVariants as stage
use Rattle.ask_core.proofs.RunSteps.{HasGathered, has_gathered, some_left, keys_are, seen_taken, is_ready, looked_facts}
use Rattle.ask_core.proofs.RunLaws.{primitives_ahead}
use Rattle.ask_core.proofs.runs.Run.take_uses.Goals as goal

before : (c : goal.After-gather-arg-2-1) → IsRun (facts_of c.self.inside.book.value (arc_value c.self.inside.table) c.self.inside.question c.self.inside.live c.self.inside.course c.self.inside.round stage.Idle) c.self.inside.course c.self.inside.round
before c =
    let at : c.self.inside.stage ≡ stage.Idle = ap (λ (r : RunFacts). r.stage) c.self.view_is ∙ c.requires.idle in
    subst (λ s. IsRun (facts_of c.self.inside.book.value (arc_value c.self.inside.table) c.self.inside.question c.self.inside.live c.self.inside.course c.self.inside.round s) c.self.inside.course c.self.inside.round) at c.self.invariant

pub gather-requires-clause-primitives : goal.gather-requires-clause-primitives
gather-requires-clause-primitives c =
    rw c.deref.ensures (primitives_ahead (arc_value c.self.inside.table).model.rows c.self.inside.question c.self.inside.course (before c).course_is _ (before c).ahead)

pub gather-requires-clause-some : goal.gather-requires-clause-some
gather-requires-clause-some c none =
    rw c.deref.ensures (some_left c.self.inside.book.value (arc_value c.self.inside.table) c.self.inside.question c.self.inside.live c.self.inside.course c.self.inside.round (before c) none)

here : (c : goal.After-len) → IsRun (facts_of c.self.inside.book.value (arc_value c.self.inside.table) c.self.inside.question c.self.inside.live c.self.inside.course c.self.inside.round stage.Idle) c.self.inside.course c.self.inside.round
here c =
    let at : c.self.inside.stage ≡ stage.Idle = ap (λ (r : RunFacts). r.stage) c.self.view_is ∙ c.requires.idle in
    subst (λ s. IsRun (facts_of c.self.inside.book.value (arc_value c.self.inside.table) c.self.inside.question c.self.inside.live c.self.inside.course c.self.inside.round s) c.self.inside.course c.self.inside.round) at c.self.invariant

has : (c : goal.After-len) → HasGathered c.self.inside.book.value (arc_value c.self.inside.table) c.self.inside.question c.self.inside.live c.self.inside.course c.self.inside.round (here c) (c.gather.new.self, c.gather.new.ahead)
has c =
    has_gathered c.self.inside.book.value (arc_value c.self.inside.table) c.self.inside.question c.self.inside.live c.self.inside.course c.self.inside.round (here c)
    c.gather.new.self c.gather.new.ahead (rw c.deref.ensures at c.gather.ensures.taken) c.gather.ensures.kept c.gather.ensures.rest c.gather.ensures.room (rw c.deref.ensures at c.gather.ensures.ahead)

abbrev after : (c : goal.After-len) → Course
after c = record { count = c.self.inside.course.count; size = c.self.inside.course.size; cells = c.self.inside.course.cells; known = c.self.inside.course.known; room = c.self.inside.course.room; ahead = c.gather.new.ahead }

-- contracts see the run that has gathered as they saw it before
seen_is : (c : goal.After-len) → facts_of c.self.inside.book.value (arc_value c.self.inside.table) c.self.inside.question c.self.inside.live (after c) c.gather.new.self stage.Idle ≡ c.args.self.now
seen_is c =
    let at : c.self.inside.stage ≡ stage.Idle = ap (λ (r : RunFacts). r.stage) c.self.view_is ∙ c.requires.idle in
    (has c).2 ∙ ap (λ s. facts_of c.self.inside.book.value (arc_value c.self.inside.table) c.self.inside.question c.self.inside.live c.self.inside.course c.self.inside.round s) (sym at) ∙ c.self.view_is

abbrev took : (c : goal.After-len) → List Use
took c = take (length c.look_up.new.self.places.list) (left_after (arc_value c.self.inside.table).model.rows c.self.inside.question (done_of (after c)))

pub invariant_of-self : goal.invariant_of-self
invariant_of-self c =
    is_ready c.self.inside.book.value (arc_value c.self.inside.table) c.self.inside.question c.self.inside.live (after c) c.gather.new.self c.look_up.new.self
    c.args.memo.now.entries (has c).0 (has c).1 c.look_up.ensures.found c.look_up.ensures.keys.0 c.look_up.ensures.keys.1 c.look_up.ensures.values c.look_up.ensures.room
    (subst (λ (r : RunFacts). (k : Key) (v : _) → IsOwnKey r k → verdict_of k c.args.memo.now.entries ≡ Some v → v ≡ key_verdict r.table.model.rows k) (sym (seen_is c)) c.requires.right)

pub returns-clause-taken : goal.returns-clause-taken
returns-clause-taken c =
    subst (λ (r : RunFacts). IsTaken r.table (left_in_cell r) (took c)) (seen_is c)
    (seen_taken c.self.inside.book.value (arc_value c.self.inside.table) c.self.inside.question c.self.inside.live (after c) c.gather.new.self c.look_up.new.self
    c.args.memo.now.entries (has c).0 (has c).1 c.look_up.ensures.found c.look_up.ensures.keys.0 c.look_up.ensures.keys.1 c.look_up.ensures.values c.look_up.ensures.room)

pub returns-clause-run : goal.returns-clause-run
returns-clause-run c =
    looked_facts c.self.inside.book.value (arc_value c.self.inside.table) c.self.inside.question c.self.inside.live (after c) c.gather.new.self c.look_up.new.self
    c.args.memo.now.entries (has c).0 (has c).1 c.look_up.ensures.found c.look_up.ensures.keys.0 c.look_up.ensures.keys.1 c.look_up.ensures.values c.look_up.ensures.room
    ∙ ap (λ (r : RunFacts). with_taken r (took c) c.args.memo.now.entries) (seen_is c)

pub returns-clause-entries : goal.returns-clause-entries
returns-clause-entries c =
    let are = keys_are c.self.inside.book.value (arc_value c.self.inside.table) c.self.inside.question c.self.inside.live (after c) c.gather.new.self c.look_up.new.self
    c.args.memo.now.entries (has c).0 (has c).1 c.look_up.ensures.found c.look_up.ensures.keys.0 c.look_up.ensures.keys.1 c.look_up.ensures.values c.look_up.ensures.room in
    c.look_up.ensures.entries ∙ ap (λ l. looked l c.args.memo.now.entries) are
    ∙ ap (λ (r : RunFacts). looked (use_keys r.table (took c)) c.args.memo.now.entries) (seen_is c)
