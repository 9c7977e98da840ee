-- No line of a session stands twice in the log of a lawful outcome.
use Rattle.std.proofs.Common.{◌≡◌, ◌⊎◌, inl, inr, ℕ, ◌<◌, List, Some, slice_get, sym, arith}
use Rattle.std.proofs.lemmas.Bool.{cases_order}
use Rattle.solid_base.specs.declared.entities.Model.{Model}
use Rattle.solid_base.specs.declared.replies.Reply.{Reply}
use Rattle.script_lines.specs.declared.commands.Command.{Command}
use Rattle.edit_core.specs.Versions.{LogEntry}
use Rattle.solid_desk.specs.Legal.{IsBefore, IsLegal}

before : (log : List LogEntry) (first second : ℕ) (a b : LogEntry) → slice_get log first ≡ Some a → slice_get log second ≡ Some b → a.session ≡ b.session → first < second → IsBefore log a b
before log first second a b at after one lt = record { place = first; after = second; order = lt; first_is = at; second_is = after; of_one = one }

pub logged_once : (opening : Model) (sessions : List (List Command)) (log : List LogEntry) (transcripts : List (List Reply)) (first second : ℕ) (a b : LogEntry) → IsLegal opening sessions log transcripts
    → slice_get log first ≡ Some a → slice_get log second ≡ Some b → a.session ≡ b.session → a.line ≡ b.line → first ≡ second
logged_once opening sessions log transcripts first second a b legal at after one line = go (cases_order first second) where
  go : (first ≡ second) ⊎ ((first < second) ⊎ (second < first)) → first ≡ second
  go (inl same) = same
  go (inr (inl lt)) = let h = legal.entries.in_order a b (before log first second a b at after one lt) in absurd (omega (arith, h, line))
  go (inr (inr lt)) = let h = legal.entries.in_order b a (before log second first b a after at (sym one) lt) in absurd (omega (arith, h, line))
