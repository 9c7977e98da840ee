-- What a read of bytes in memory gives.
use Rattle.std.proofs.Common.{◌≡◌, ℕ, ◌<◌, ◌≤◌, ◌+◌, List, [], ◌++◌, length, take, drop, min, arith, length-append, length-drop, sym, ap, ◌∙◌}
use Rattle.std.proofs.lemmas.List.{take-append-drop, drop-drop, length-take-le, take_at}
use Rattle.std.proofs.Math.ListN.{drop_of_length-le}

-- the bytes from `at` on are those that were copied to the front of the buffer, and then the rest;
-- where none was copied into a buffer that isn't empty, there is no rest
pub front_given : (bytes buf new : List ℕ) (at n : ℕ) → at ≤ length bytes → n ≡ min (length (drop at bytes)) (length buf) → new ≡ take n (drop at bytes)
    → (drop at bytes ≡ take n (new ++ drop n buf) ++ drop (at + n) bytes) × (n ≡ 0 → 0 < length (new ++ drop n buf) → drop (at + n) bytes ≡ [])
front_given bytes buf new at n within least copied =
    let some : n ≤ length (drop at bytes) = omega (arith, least) in
    let long : length new ≡ n = ap length copied ∙ length-take-le n (drop at bytes) some in
    let front : take n (new ++ drop n buf) ≡ new = take_at new (drop n buf) n long in (
      sym (take-append-drop n (drop at bytes)) ∙ ap (λ l. l ++ drop n (drop at bytes)) (sym (front ∙ copied)) ∙ ap (λ l. take n (new ++ drop n buf) ++ l) (drop-drop n at bytes),
      λ none more. drop_of_length-le bytes {i = at + n} (omega (arith, length-append new (drop n buf), length-drop n buf, length-drop at bytes, least)),
    )
