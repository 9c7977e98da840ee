-- The entry that `promote` of `lru` found is then the first.
use Rattle.std.proofs.Common.{◌≡◌, Bool, true, false, List, [], ◌∷◌, Option, None, Some, refl}
use Rattle.std.proofs.Common.{slice_get, ap, sym, ◌∙◌}
use Rattle.std.specs.Option.{is_some, option_map, option_map_or}
use Rattle.std.specs.Map.{lookup, lookup_entry, remove_entry}
use Rattle.lru.specs.LruCache.{promoted}

module _ {K V : Type 0} (test : K → Bool) where
  -- a verdict is found where an entry is
  value_of_entry : (es : List (K × V))
      → option_map (λ (e : K × V). e.1) (lookup_entry test es) ≡ lookup test es
  value_of_entry [] = refl
  value_of_entry (e ∷ es) = (elim (test e.0)
      as (λ y. test e.0 ≡ y → option_map (λ (f : K × V). f.1) (lookup_entry test (e ∷ es))
      ≡ lookup test (e ∷ es)) [
        | true ↦ λ t. rw t refl
        | false ↦ λ t. rw t (value_of_entry es)
      ]) refl

  first_by : (es : List (K × V)) (o : Option (K × V))
      → is_some (option_map (λ (e : K × V). e.1) o) ≡ true
      → option_map (λ (e : K × V). e.1)
      (slice_get (option_map_or (λ e. e ∷ remove_entry test es) o es) 0)
      ≡ option_map (λ (e : K × V). e.1) o
  first_by es None h = absurd cc
  first_by es (Some e) h = refl

  pub found_first : {found : Bool} (es : List (K × V)) → found ≡ is_some (lookup test es)
      → found ≡ true
      → option_map (λ (e : K × V). e.1) (slice_get (promoted test es) 0) ≡ lookup test es
  found_first es e f =
      first_by es (lookup_entry test es) (ap is_some (value_of_entry es) ∙ sym e ∙ f)
      ∙ value_of_entry es

  none_by : (o : Option V) → is_some o ≡ false → None ≡ o
  none_by None e = refl
  none_by (Some v) e = absurd cc

  pub not_found : {found : Bool} (es : List (K × V)) → found ≡ is_some (lookup test es)
      → found ≡ false → None ≡ lookup test es
  not_found es e f = none_by (lookup test es) (sym e ∙ f)
