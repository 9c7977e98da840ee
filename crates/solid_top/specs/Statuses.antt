-- solidd's own: the exit status of the program for each way in which a run ends, and what a status
-- says of a count of failed calls and of an answer.
use Rattle.std.specs.Prelude.{ℕ, ◌==◌, List, cond}
use Rattle.solid_base.specs.Ledgers.{counted}
use Rattle.solid_top.specs.declared.statuses.Status.{Status}
use Rattle.solid_top.specs.declared.statuses.Status.TheVariants as status

abbrev pub status_number : Status → ℕ
status_number status.Done = 0
status_number status.Usage = 2
status_number status.Refused = 3
status_number status.Memory = 4
status_number status.ReadFault = 5
status_number status.WriteFault = 6
status_number status.TooLong = 7

-- the count of failed calls after a run: one more exactly where it ended with this status
abbrev pub failures_after : Status → ℕ → Status → ℕ
failures_after failed count ended =
    cond (status_number ended == status_number failed) (counted count 1) count

-- a status and a text that are answered to an input: Done with such a text, or Refused with such a
-- text; no other status comes
abbrev pub IsDoneOrRefused : (List ℕ → Type 0) → (List ℕ → Type 0) → Status → List ℕ → Type 0
IsDoneOrRefused IsOutput IsRefusal status.Done text = IsOutput text
IsDoneOrRefused IsOutput IsRefusal status.Refused text = IsRefusal text
IsDoneOrRefused IsOutput IsRefusal _ text = ⊥
