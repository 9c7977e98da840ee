-- solidd's own: what contracts see of a list with room that was set aside.
use Rattle.std.specs.Prelude.{ℕ, List, refl}
use Rattle.std.specs.Coded.{Coded, code_by, coded×, coded_ℕ, coded_list}

-- items, and how many more can be pushed without taking memory
pub record Stack (T : Type 0) : Type 0 where
  pub list : List T
  pub spare : ℕ

-- a stack as a pair, and back
abbrev pub stack_code : {T : Type 0} → Coded T → Coded (Stack T)
stack_code {T} t =
    code_by (List T × ℕ) (coded× (coded_list t) coded_ℕ)
    (λ s. (s.list, s.spare)) (λ p. record { list = p.0; spare = p.1 }) (λ _. refl)
