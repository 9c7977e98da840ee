-- An input has one answer where it has one output or one refusal, and not both.
use Rattle.std.proofs.Common.{◌≡◌, ℕ, List, refl}
use Rattle.solid_top.specs.declared.statuses.Status.{Status}
use Rattle.solid_top.specs.declared.statuses.Status.TheVariants as status
use Rattle.solid_top.specs.Statuses.{IsDoneOrRefused}

module _ (IsOutput IsRefusal : List ℕ → Type 0) (output_once : (a b : List ℕ) → IsOutput a → IsOutput b → a ≡ b) (refusal_once : (a b : List ℕ) → IsRefusal a → IsRefusal b → a ≡ b)
    (never_both : (a b : List ℕ) → IsOutput a → IsRefusal b → ⊥) where
  abbrev Is : Status → List ℕ → Type 0
  Is s text = IsDoneOrRefused IsOutput IsRefusal s text

  done : (t : Status) (a b : List ℕ) → IsOutput a → Is t b → (status.Done ≡ t) × (a ≡ b)
  done status.Done a b h k = (refl, output_once a b h k)
  done status.Refused a b h k = absurd (never_both a b h k)
  done status.Usage a b h k = absurd k
  done status.Memory a b h k = absurd k
  done status.ReadFault a b h k = absurd k
  done status.WriteFault a b h k = absurd k
  done status.TooLong a b h k = absurd k

  refused : (t : Status) (a b : List ℕ) → IsRefusal a → Is t b → (status.Refused ≡ t) × (a ≡ b)
  refused status.Done a b h k = absurd (never_both b a k h)
  refused status.Refused a b h k = (refl, refusal_once a b h k)
  refused status.Usage a b h k = absurd k
  refused status.Memory a b h k = absurd k
  refused status.ReadFault a b h k = absurd k
  refused status.WriteFault a b h k = absurd k
  refused status.TooLong a b h k = absurd k

  pub answered_once : (s t : Status) (a b : List ℕ) → Is s a → Is t b → (s ≡ t) × (a ≡ b)
  answered_once status.Done t a b h k = done t a b h k
  answered_once status.Refused t a b h k = refused t a b h k
  answered_once status.Usage t a b h k = absurd h
  answered_once status.Memory t a b h k = absurd h
  answered_once status.ReadFault t a b h k = absurd h
  answered_once status.WriteFault t a b h k = absurd h
  answered_once status.TooLong t a b h k = absurd h
