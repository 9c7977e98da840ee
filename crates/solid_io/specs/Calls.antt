-- solidd's own: calls that fail by a list of their numbers, and the counts of calls and of
-- failures.
use Rattle.std.specs.Prelude.{Contains}
use Rattle.solid_base.specs.Ledgers.{counted}
use Rattle.solid_io.specs.declared.calls.Calls.{Calls}

-- the next call is one of those that fail
abbrev pub IsListed : Calls → Type 0
IsListed calls = Contains calls.fails calls.made

-- after one call more, which went well
abbrev pub after_call : Calls → Calls
after_call calls = record calls { made = counted calls.made 1 }

-- after one call more, which failed
abbrev pub after_failure : Calls → Calls
after_failure calls = record calls {
  made = counted calls.made 1;
  faults = counted calls.faults 1;
}
