-- The signs of a section stand at their places.
use Rattle.std.proofs.Common.{◌≡◌, ◌∙◌, ap, ℕ, ◌+◌, ◌*◌, ◌<◌, ◌≤◌, List, length, map, take, drop, get_or, Some, arith, mul-le-mul, length-take, length-drop}
use Rattle.std.specs.Prelude.{slice_get}
use Rattle.std.proofs.lemmas.List.{get_or-map, get_or-take, get_or-drop, length-map}
use Rattle.std.proofs.lemmas.Option.{slice_get_within, slice_get-get_or, get_or_from_slice_get}
use Rattle.solid_base.specs.declared.classes.Verdict.{Verdict}
use Rattle.solid_questions.specs.Bodies.{class_sign, section_line}

sign : Verdict → ℕ
sign v = class_sign v.class

pub sign_is : (nx j i : ℕ) (verdicts : List Verdict) (v : Verdict) → i < nx → slice_get verdicts (i + nx * j) ≡ Some v
    → slice_get (section_line nx verdicts j) i ≡ Some (class_sign v.class)
sign_is nx j i verdicts v left there =
    let rest = drop (nx * j) verdicts in
    let place : i + nx * j ≡ nx * j + i = omega arith in
    let long = slice_get_within verdicts (i + nx * j) v there in
    let within : i < length (take nx rest) = omega (arith, length-take nx rest, length-drop (nx * j) verdicts, long, left) in
    let line : i < length (map (λ v. class_sign v.class) (take nx rest)) =
    omega (arith, within, length-map (take nx rest) (λ v. class_sign v.class)) in
    let found : get_or verdicts (nx * j + i) v ≡ v = rw place at (get_or_from_slice_get verdicts (i + nx * j) v v there) in
    slice_get-get_or (map (λ v. class_sign v.class) (take nx rest)) i 0 line
    ∙ ap Some (get_or-map (λ v. class_sign v.class) (take nx rest) i v 0 within
    ∙ ap (λ v. class_sign v.class) (get_or-take nx rest i v left ∙ (get_or-drop (nx * j) verdicts i v ∙ found)))

pub columns_are : (nx ny j : ℕ) (verdicts : List Verdict) → length verdicts ≡ nx * ny → j < ny → length (section_line nx verdicts j) ≡ nx
columns_are nx ny j verdicts long few =
    let rest = drop (nx * j) verdicts in
    let all : nx * (j + 1) ≤ nx * ny = mul-le-mul (omega arith) (omega (arith, few)) in
    length-map (take nx rest) (λ v. class_sign v.class)
    ∙ omega (arith, length-take nx rest, length-drop (nx * j) verdicts, long, all)
