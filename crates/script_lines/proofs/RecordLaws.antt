-- The record of a command is a part of its line, and each line is one line, no longer than the bytes.
use Rattle.std.proofs.Common.{◌≡◌, ◌≢◌, ℕ, suc, ◌<◌, ◌≤◌, ◌-◌, List, [], ◌∷◌, length, take, drop, Bool, true, false, cond, ◌==◌, ◌&&◌, ℤ, refl, sym, subst, arith, take-append-drop}
use Rattle.std.proofs.lemmas.List.{length-drop}
use Rattle.std.specs.List.{AllByRecursion, filter}
use Rattle.solid_base.specs.Texts.{IsOneLine}
use Rattle.solid_base.proofs.Texts.{one_line_end}
use Rattle.script_lines.specs.declared.commands.Command.{Command}
use Rattle.script_lines.specs.declared.commands.ScriptLine.{ScriptLine}
use Rattle.script_lines.specs.declared.tables.Kind.{Kind}
use Rattle.script_lines.specs.declared.tables.Kind.TheVariants as kind
use Rattle.script_lines.specs.Grammar.{Ends, IsCommand, made, broken, unfinished, unknown, IsLine, of_session, too_many, no_session}
use Rattle.script_lines.specs.Lines.{lines_of, kept_lines, is_kept, put_in_front, begins_with_feed}
use Rattle.script_lines.specs.Scripts.{AreLines, IsScript, HasRecordWithin, IsLineWithin, HaveRecordsWithin}
use Rattle.script_lines.specs.Tables.{has_record, command_of}
use Rattle.script_lines.specs.Words.{Word}

-- ---- one line

rest_within : (most n : ℕ) (line : List ℕ) → IsLineWithin most line → IsLineWithin most (drop n line)
rest_within most n line h = (
  one_line_end (take n line) (drop n line) (subst IsOneLine (sym (take-append-drop n line)) h.0),
  omega (arith, h.1, length-drop n line),
)

record_within : (most : ℕ) (line text : List ℕ) (rest : List Word) → IsLineWithin most line → Ends true line rest text → IsLineWithin most text
record_within most line text [] h ends = absurd ends
record_within most line text (w ∷ rest) h ends = subst (IsLineWithin most) (sym ends) (rest_within most (w.column - 1) line h)

kind_within : (most : ℕ) (k : Kind) (live : Bool) (numbers : List ℤ) (line text : List ℕ) (rest : List Word) → IsLineWithin most line
    → Ends (has_record k) line rest text → HasRecordWithin most (command_of k live numbers text)
kind_within most kind.Point live numbers line text rest h ends = tt
kind_within most kind.Cell live numbers line text rest h ends = tt
kind_within most kind.Items live numbers line text rest h ends = tt
kind_within most kind.Section live numbers line text rest h ends = tt
kind_within most kind.Volume live numbers line text rest h ends = tt
kind_within most kind.Bounds live numbers line text rest h ends = tt
kind_within most kind.Export live numbers line text rest h ends = tt
kind_within most kind.Newest live numbers line text rest h ends = tt
kind_within most kind.Replace live numbers line text rest h ends = record_within most line text rest h ends
kind_within most kind.Add live numbers line text rest h ends = record_within most line text rest h ends
kind_within most kind.Drop live numbers line text rest h ends = tt
kind_within most kind.Commit live numbers line text rest h ends = tt

command_within : (most : ℕ) (line : List ℕ) (words : List Word) (c : Command) → IsLineWithin most line → IsCommand line words c → HasRecordWithin most c
command_within most line words c h (made {live = live} {kind = k} names m) =
    subst (HasRecordWithin most) (sym m.is) (kind_within most k live m.numbers line m.text m.rest h m.ends)
command_within most line words c h (broken names first) = tt
command_within most line words c h (unfinished ends) = tt
command_within most line words c h (unknown ends none) = tt

pub line_within : (most : ℕ) (text : List ℕ) (line : ScriptLine) → IsLineWithin most text → IsLine text line → HasRecordWithin most line.command
line_within most text line h (of_session {others = others} {c = c} words session few is) = command_within most text others c h is
line_within most text line h (too_many words session many) = tt
line_within most text line h (no_session words none) = tt

-- ---- the lines of bytes

abbrev AreWithin : ℕ → List (List ℕ) → Type 0
AreWithin most lines = AllByRecursion (IsLineWithin most) lines

longer : (n m : ℕ) (lines : List (List ℕ)) → n ≤ m → AreWithin n lines → AreWithin m lines
longer n m [] h within = tt
longer n m (line ∷ lines) h within = ((within.0.0, omega (arith, within.0.1, h)), longer n m lines h within.1)

in_front : (n m b : ℕ) (lines : List (List ℕ)) → n < m → b ≢ 10 → AreWithin n lines → AreWithin m (put_in_front b lines)
in_front n m b [] h other within = (((other, tt), omega (arith, h)), tt)
in_front n m b (line ∷ lines) h other within =
    (((other, within.0.0), omega (arith, within.0.1, h)), longer n m lines (omega (arith, h)) within.1)

first_within : (n b : ℕ) (lines : List (List ℕ)) (feed return : Bool) → (b == 10) ≡ feed → AreWithin n lines
    → AreWithin (suc n) (cond feed ([] ∷ lines) (cond return lines (put_in_front b lines)))
first_within n b lines true return k within = ((tt, omega arith), longer n (suc n) lines (omega arith) within)
first_within n b lines false true k within = longer n (suc n) lines (omega arith) within
first_within n b lines false false k within = in_front n (suc n) b lines (omega arith) (grind (arith, k)) within

lines_within : (bytes : List ℕ) → AreWithin (length bytes) (lines_of bytes)
unfolding lines_of
lines_within [] = tt
lines_within (b ∷ bs) =
    first_within (length bs) b (lines_of bs) (b == 10) ((b == 13) && begins_with_feed bs) refl (lines_within bs)

kept_one : (most : ℕ) (line : List ℕ) (kept : List (List ℕ)) (v : Bool) → IsLineWithin most line → AreWithin most kept → AreWithin most (cond v (line ∷ kept) kept)
kept_one most line kept true h within = (h, within)
kept_one most line kept false h within = within

kept_within : (most : ℕ) (lines : List (List ℕ)) → AreWithin most lines → AreWithin most (filter is_kept lines)
kept_within most [] h = tt
kept_within most (line ∷ lines) h = kept_one most line (filter is_kept lines) (is_kept line) h.0 (kept_within most lines h.1)

pub each_within : (bytes : List ℕ) → AllByRecursion (IsLineWithin (length bytes)) (kept_lines bytes)
each_within bytes = kept_within (length bytes) (lines_of bytes) (lines_within bytes)

pub read_within : (bytes text : List ℕ) (more : List (List ℕ)) (line : ScriptLine) → kept_lines bytes ≡ text ∷ more → IsLine text line → HasRecordWithin (length bytes) line.command
read_within bytes text more line kept is =
    line_within (length bytes) text line (subst (AreWithin (length bytes)) kept (each_within bytes)).0 is

-- ---- scripts

all_within : (most : ℕ) (lines : List (List ℕ)) (script : List ScriptLine) → AreWithin most lines → AreLines lines script → HaveRecordsWithin most script
all_within most [] [] h is = tt
all_within most [] (s ∷ script) h is = absurd is
all_within most (line ∷ lines) [] h is = absurd is
all_within most (line ∷ lines) (s ∷ script) h is = (line_within most line s h.0 is.0, all_within most lines script h.1 is.1)

pub script_within : (bytes : List ℕ) (script : List ScriptLine) → IsScript bytes script → HaveRecordsWithin (length bytes) script
script_within bytes script is = all_within (length bytes) (kept_lines bytes) script (each_within bytes) is
