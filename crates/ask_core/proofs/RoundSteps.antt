-- One key after the other is evaluated, and one use after the other has its verdict.
use Rattle.std.proofs.Common.{◌≡◌, ℕ, zero, suc, ◌+◌, ◌<◌, List, [], ◌∷◌, ◌++◌, length, drop, get_or, map, is_some, true, false, MatchOption, Option, None, Some, refl, sym, ap, ◌∙◌, subst, arith, append_assoc, length-append}
use Rattle.std.specs.List.{AllByRecursion}
use Rattle.std.proofs.lemmas.List.{map-append}
use Rattle.std.proofs.lemmas.Option.{slice_get-get_or}
use Rattle.solid_base.specs.Ledgers.{counted}
use Rattle.solid_base.proofs.Counts.{counted_twice}
use Rattle.solid_base.specs.declared.classes.Class.TheVariants as class
use Rattle.solid_base.specs.declared.classes.Verdict.{Verdict}
use Rattle.solid_base.specs.declared.entities.Entity.{Entity}
use Rattle.fixed_enclosure.specs.declared.enclosures.Enc.TheVariants as enc
use Rattle.memo_graph.specs.declared.key.Key.{Key}
use Rattle.memo_graph.specs.Memos.{Entry}
use Rattle.ask_core.specs.Books.{key_verdict}
use Rattle.ask_core.specs.Rounds.{picked, fresh_entries, unfound, wanted_keys, AreRight}

pub one_found_each : (rows : List Entity) (keys : List Key) (found : List (Option Verdict)) → AreRight rows keys found → length found ≡ length keys
one_found_each rows [] found h = ap (λ (l : List (Option Verdict)). length l) h
one_found_each rows (k ∷ keys) [] h = absurd h
one_found_each rows (k ∷ keys) (o ∷ found) h = ap suc (one_found_each rows keys found h.1)

-- a key that stands nowhere
abbrev pub no_key : Key
no_key = record { de = 0; stamp = 0; at = record { x = enc.All; y = enc.All; z = enc.All } }

-- a verdict on nothing
abbrev pub no_verdict : Verdict
no_verdict = record { class = class.Outside; leaf = 0 }

-- what is left from a place on
pub cut_at : {X : Type 0} (xs : List X) (n : ℕ) (d : X) → n < length xs → drop n xs ≡ get_or xs n d ∷ drop (n + 1) xs
cut_at [] n d h = absurd (omega (arith, h))
cut_at (x ∷ xs) zero d h = refl
cut_at (x ∷ xs) (suc n) d h =
    let more : suc n + 1 ≡ suc (n + 1) = omega arith in
    cut_at xs n d (omega (arith, h)) ∙ ap (λ m. get_or xs n d ∷ drop m (x ∷ xs)) (sym more)

pub right_here : (rows : List Entity) (keys : List Key) (found : List (Option Verdict)) (n : ℕ) (k : Key) (o : Option Verdict)
    → n < length keys → n < length found → AreRight rows (drop n keys) (drop n found)
    → MatchOption (get_or found n o) (Unit {0}) (λ verdict. verdict ≡ key_verdict rows (get_or keys n k)) × AreRight rows (drop (n + 1) keys) (drop (n + 1) found)
right_here rows keys found n k o a b h =
    subst (λ l. AreRight rows (get_or keys n k ∷ drop (n + 1) keys) l) (cut_at found n o b) (subst (λ l. AreRight rows l (drop n found)) (cut_at keys n k a) h)

pub all_here : {X : Type 0} (P : X → Type 0) (xs : List X) (n : ℕ) (d : X) → n < length xs → AllByRecursion P (drop n xs) → P (get_or xs n d) × AllByRecursion P (drop (n + 1) xs)
all_here P xs n d a h = subst (AllByRecursion P) (cut_at xs n d a) h

pub one_value : {X Y : Type 0} (f : X → Y) (xs : List X) (n : ℕ) (d : X) (old new whole : List Y) → n < length xs
    → new ≡ old ++ f (get_or xs n d) ∷ [] → old ++ map f (drop n xs) ≡ whole → new ++ map f (drop (n + 1) xs) ≡ whole
one_value f xs n d old new whole a put is =
    ap (λ l. l ++ map f (drop (n + 1) xs)) put ∙ append_assoc old (f (get_or xs n d) ∷ []) (map f (drop (n + 1) xs))
    ∙ ap (λ l. old ++ map f l) (sym (cut_at xs n d a)) ∙ is

first_unfound : (k : Key) (o : Option Verdict) (keys : List Key) (found : List (Option Verdict)) → unfound (k ∷ keys) (o ∷ found) ≡ unfound (k ∷ []) (o ∷ []) ++ unfound keys found
first_unfound k None keys found = refl
first_unfound k (Some v) keys found = refl

pub unfound_here : (keys : List Key) (found : List (Option Verdict)) (n : ℕ) (k : Key) (o : Option Verdict) → n < length keys → n < length found
    → unfound (drop n keys) (drop n found) ≡ unfound (get_or keys n k ∷ []) (get_or found n o ∷ []) ++ unfound (drop (n + 1) keys) (drop (n + 1) found)
unfound_here keys found n k o a b =
    ap (λ l. unfound l (drop n found)) (cut_at keys n k a) ∙ ap (λ l. unfound (get_or keys n k ∷ drop (n + 1) keys) l) (cut_at found n o b)
    ∙ first_unfound (get_or keys n k) (get_or found n o) (drop (n + 1) keys) (drop (n + 1) found)

pub counted_here : (keys : List Key) (found : List (Option Verdict)) (n : ℕ) (k : Key) (o : Option Verdict) (old new whole : ℕ) → n < length keys → n < length found
    → new ≡ counted old (length (unfound (get_or keys n k ∷ []) (get_or found n o ∷ []))) → counted old (length (unfound (drop n keys) (drop n found))) ≡ whole
    → counted new (length (unfound (drop (n + 1) keys) (drop (n + 1) found))) ≡ whole
counted_here keys found n k o old new whole a b more is =
    let own = unfound (get_or keys n k ∷ []) (get_or found n o ∷ []) in
    let rest = unfound (drop (n + 1) keys) (drop (n + 1) found) in
    ap (λ c. counted c (length rest)) more ∙ counted_twice old (length own) (length rest)
    ∙ ap (counted old) (sym (length-append own rest)) ∙ ap (λ (l : List Key). counted old (length l)) (sym (unfound_here keys found n k o a b)) ∙ is

pub one_picked : (values : List Verdict) (places : List ℕ) (n d : ℕ) (v : Verdict) (old new : List Verdict) (whole : List (Option Verdict)) → n < length places
    → get_or places n d < length values → new ≡ old ++ get_or values (get_or places n d) v ∷ []
    → map Some old ++ picked values (drop n places) ≡ whole → map Some new ++ picked values (drop (n + 1) places) ≡ whole
one_picked values places n d v old new whole a b put is =
    let place = get_or places n d in
    let rest = picked values (drop (n + 1) places) in
    ap (λ (l : List Verdict). map Some l ++ rest) put
    ∙ ap (λ l. l ++ rest) (map-append Some old (get_or values place v ∷ []))
    ∙ append_assoc (map Some old) (Some (get_or values place v) ∷ []) rest
    ∙ ap (λ o. map Some old ++ o ∷ rest) (sym (slice_get-get_or values place v b))
    ∙ ap (λ l. map Some old ++ picked values l) (sym (cut_at places n d a)) ∙ is

pub left_length : {X : Type 0} (xs : List X) (n : ℕ) (d : X) → n < length xs → length (drop n xs) ≡ length (drop (n + 1) xs) + 1
left_length xs n d a = (let is : length (drop n xs) ≡ suc (length (drop (n + 1) xs)) = ap (λ (l : List _). length l) (cut_at xs n d a) in omega (arith, is))

pub put_length : {X : Type 0} (old new : List X) (x : X) → new ≡ old ++ x ∷ [] → length new ≡ length old + 1
put_length old new x put = ap (λ (l : List _). length l) put ∙ length-append old (x ∷ [])

-- ---- fresh entries

-- where each key has its verdict none is wanted, and the fresh entries are those of the keys that weren't found
pub none_wanted : (f : Key → Verdict) (keys : List Key) (found : List (Option Verdict)) → wanted_keys (map f keys) keys found ≡ []
none_wanted f [] found = refl
none_wanted f (k ∷ keys) found = refl

pub fresh_made : (f : Key → Verdict) (keys : List Key) (found : List (Option Verdict)) → fresh_entries (map f keys) keys found ≡ map (λ key. (key, f key)) (unfound keys found)
fresh_made f [] found = refl
fresh_made f (k ∷ keys) [] = refl
fresh_made f (k ∷ keys) (None ∷ found) = ap (λ l. (k, f k) ∷ l) (fresh_made f keys found)
fresh_made f (k ∷ keys) (Some v ∷ found) = fresh_made f keys found

first_fresh : (v : Verdict) (k : Key) (o : Option Verdict) (values : List Verdict) (keys : List Key) (found : List (Option Verdict))
    → fresh_entries (v ∷ values) (k ∷ keys) (o ∷ found) ≡ fresh_entries (v ∷ []) (k ∷ []) (o ∷ []) ++ fresh_entries values keys found
first_fresh v k None values keys found = refl
first_fresh v k (Some w) values keys found = refl

fresh_from : (values : List Verdict) (keys : List Key) (found : List (Option Verdict)) (n : ℕ) (v : Verdict) (k : Key) (o : Option Verdict)
    → n < length values → n < length keys → n < length found
    → fresh_entries (drop n values) (drop n keys) (drop n found)
    ≡ fresh_entries (get_or values n v ∷ []) (get_or keys n k ∷ []) (get_or found n o ∷ []) ++ fresh_entries (drop (n + 1) values) (drop (n + 1) keys) (drop (n + 1) found)
fresh_from values keys found n v k o a b c =
    (λ i. fresh_entries (cut_at values n v a i) (cut_at keys n k b i) (cut_at found n o c i))
    ∙ first_fresh (get_or values n v) (get_or keys n k) (get_or found n o) (drop (n + 1) values) (drop (n + 1) keys) (drop (n + 1) found)

pub one_fresh : (v : Verdict) (k : Key) (o : Option Verdict) → is_some o ≡ false → fresh_entries (v ∷ []) (k ∷ []) (o ∷ []) ≡ (k, v) ∷ []
one_fresh v k None is = refl
one_fresh v k (Some w) is = absurd (grind (arith, is))

pub not_fresh : (v : Verdict) (k : Key) (o : Option Verdict) → is_some o ≡ true → fresh_entries (v ∷ []) (k ∷ []) (o ∷ []) ≡ []
not_fresh v k None is = absurd (grind (arith, is))
not_fresh v k (Some w) is = refl

-- of the fresh entries the first are a front, and what comes of one key more stands after it
pub one_key_on : (values : List Verdict) (keys : List Key) (found : List (Option Verdict)) (front : List Entry) (n : ℕ) (k : Key)
    → length values ≡ length keys → length found ≡ length keys → n < length keys
    → fresh_entries values keys found ≡ front ++ fresh_entries (drop n values) (drop n keys) (drop n found)
    → fresh_entries values keys found ≡ front ++ (fresh_entries (get_or values n no_verdict ∷ []) (get_or keys n k ∷ []) (get_or found n None ∷ [])
    ++ fresh_entries (drop (n + 1) values) (drop (n + 1) keys) (drop (n + 1) found))
one_key_on values keys found front n k each_value each_found inside all =
    all ∙ ap (λ l. front ++ l) (fresh_from values keys found n no_verdict k None (omega (arith, inside, each_value)) inside (omega (arith, inside, each_found)))
