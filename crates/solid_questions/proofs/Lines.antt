-- The lines of a section, one after the other.
use Rattle.std.proofs.Common.{◌≡◌, ◌∙◌, ap, sym, refl, ℕ, suc, ◌+◌, ◌-◌, ◌<◌, List, ◌++◌, codes, arith, append_assoc}
use Rattle.solid_base.specs.declared.classes.Verdict.{Verdict}
use Rattle.solid_questions.specs.Bodies.{section_line, section_lines}

-- the lines from one on are that line and the lines after it
pub next_line : (nx ny line : ℕ) (cells : List Verdict) → line < ny
    → section_lines nx cells line (ny - line) ≡ codes "\n" ++ (section_line nx cells line ++ section_lines nx cells (line + 1) (ny - (line + 1)))
next_line nx ny line cells inside =
    let one : ny - line ≡ suc (ny - (line + 1)) = omega (arith, inside) in
    rw one refl

-- what is added for a line
pub line_added : (nx ny line : ℕ) (cells : List Verdict) (start before fed after : List ℕ) → line < ny
    → before ++ section_lines nx cells line (ny - line) ≡ start
    → fed ≡ before ++ codes "\n" → after ≡ fed ++ section_line nx cells line
    → after ++ section_lines nx cells (line + 1) (ny - (line + 1)) ≡ start
line_added nx ny line cells start before fed after inside rest feed signs =
    let l = codes "\n" in
    let s = section_line nx cells line in
    let more = section_lines nx cells (line + 1) (ny - (line + 1)) in
    let left : (before ++ l ++ s) ++ more ≡ before ++ (l ++ (s ++ more)) =
    append_assoc (before ++ l) s more ∙ append_assoc before l (s ++ more) in
    rw (signs, feed) (left ∙ (ap (λ xs. before ++ xs) (sym (next_line nx ny line cells inside)) ∙ rest))
