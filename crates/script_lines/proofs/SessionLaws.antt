-- The lines of a script go to their sessions one after the other.
use Rattle.std.proofs.Common.{◌≡◌, ℕ, zero, suc, ◌+◌, ◌<◌, ◌==◌, Bool, true, false, cond, List, [], ◌∷◌, ◌++◌, length, map, get_or, set, refl, sym, ap, subst, ◌∙◌, arith, append_assoc, append-nil}
use Rattle.std.proofs.lemmas.Grind.{common_steps}
use Rattle.std.specs.List.{AllByRecursion, range_with_len}
use Rattle.script_lines.specs.declared.commands.Command.{Command}
use Rattle.script_lines.specs.declared.commands.ScriptLine.{ScriptLine}
use Rattle.script_lines.specs.declared.commands.SessionLines.{SessionLines}
use Rattle.script_lines.specs.Grammar.{IsLine, most_sessions}
use Rattle.script_lines.specs.Lines.{kept_lines}
use Rattle.script_lines.specs.Scripts.{IsScript, IsLawfulLine}
use Rattle.script_lines.specs.Sessions.{commands_of, session_by, all_sessions, order_of, with_command}
use Rattle.script_lines.proofs.LineRead.{one_more, none_left}

-- ---- one line more

cond_push : (v : Bool) (c : Command) (cs all more : List Command) → all ≡ cs ++ more → cond v (c ∷ all) all ≡ cond v (c ∷ cs) cs ++ more
cond_push true c cs all more e = ap (λ (l : List Command). c ∷ l) e
cond_push false c cs all more e = e

commands_push : (lines : List ScriptLine) (line : ScriptLine) (k : ℕ) → commands_of (lines ++ line ∷ []) k ≡ commands_of lines k ++ cond (line.session == k) (line.command ∷ []) []
commands_push [] line k = refl
commands_push (l ∷ lines) line k =
    cond_push (l.session == k) l.command (commands_of lines k) (commands_of (lines ++ line ∷ []) k) (cond (line.session == k) (line.command ∷ []) []) (commands_push lines line k)

of_this : (lines : List ScriptLine) (line : ScriptLine) (k : ℕ) → line.session ≡ k → session_by (lines ++ line ∷ []) k ≡ with_command (session_by lines k) line.command
of_this lines line k e =
    let t : (line.session == k) ≡ true = grind (arith, common_steps, e) in
    ap (λ (cs : List Command). record { session = k; commands = cs }) (commands_push lines line k ∙ ap (λ (v : Bool). commands_of lines k ++ cond v (line.command ∷ []) []) t)

of_other : (lines : List ScriptLine) (line : ScriptLine) (k : ℕ) → (line.session == k) ≡ false → session_by (lines ++ line ∷ []) k ≡ session_by lines k
of_other lines line k t =
    ap (λ (cs : List Command). record { session = k; commands = cs })
    (commands_push lines line k ∙ ap (λ (v : Bool). commands_of lines k ++ cond v (line.command ∷ []) []) t ∙ append-nil (commands_of lines k))

others : (lines : List ScriptLine) (line : ScriptLine) (a n : ℕ) → line.session < a → map (session_by (lines ++ line ∷ [])) (range_with_len a n) ≡ map (session_by lines) (range_with_len a n)
others lines line a zero h = refl
others lines line a (suc n) h =
    let t : (line.session == a) ≡ false = grind (arith, common_steps, h) in
    ap (λ (s : SessionLines). s ∷ map (session_by (lines ++ line ∷ [])) (range_with_len (a + 1) n)) (of_other lines line a t)
    ∙ ap (λ (l : List SessionLines). session_by lines a ∷ l) (others lines line (a + 1) n (omega (arith, h)))

abbrev put : List SessionLines → ℕ → Command → List SessionLines
put sessions j c = set sessions j (with_command (get_or sessions j (session_by [] 0)) c)

put_in : (lines : List ScriptLine) (line : ScriptLine) (a n j : ℕ) → line.session ≡ a + j → j < n
    → put (map (session_by lines) (range_with_len a n)) j line.command ≡ map (session_by (lines ++ line ∷ [])) (range_with_len a n)
put_in lines line a zero j e h = absurd (omega (arith, h))
put_in lines line a (suc n) zero e h =
    ap (λ (s : SessionLines). s ∷ map (session_by lines) (range_with_len (a + 1) n)) (sym (of_this lines line a (omega (arith, e))))
    ∙ ap (λ (l : List SessionLines). session_by (lines ++ line ∷ []) a ∷ l) (sym (others lines line (a + 1) n (omega (arith, e))))
put_in lines line a (suc n) (suc j) e h =
    let t : (line.session == a) ≡ false = (let off : a < line.session = omega (arith, e) in grind (arith, common_steps, off)) in
    ap (λ (l : List SessionLines). session_by lines a ∷ l) (put_in lines line (a + 1) n j (omega (arith, e)) (omega (arith, h)))
    ∙ ap (λ (s : SessionLines). s ∷ map (session_by (lines ++ line ∷ [])) (range_with_len (a + 1) n)) (sym (of_other lines line a t))

order_push : (lines : List ScriptLine) (line : ScriptLine) → order_of (lines ++ line ∷ []) ≡ order_of lines ++ line.session ∷ []
order_push [] line = refl
order_push (l ∷ lines) line = ap (λ (ks : List ℕ). l.session ∷ ks) (order_push lines line)

lawful_push : (lines : List ScriptLine) (line : ScriptLine) → AllByRecursion IsLawfulLine lines → IsLawfulLine line → AllByRecursion IsLawfulLine (lines ++ line ∷ [])
lawful_push [] line h k = (k, tt)
lawful_push (l ∷ lines) line h k = (h.0, lawful_push lines line h.1 k)

-- sessions without a line, one more
pub range_push : (a n : ℕ) → map (session_by []) (range_with_len a (suc n)) ≡ map (session_by []) (range_with_len a n) ++ session_by [] (a + n) ∷ []
range_push a zero = let e : a ≡ a + 0 = omega arith in ap (λ (k : ℕ). session_by [] k ∷ []) e
range_push a (suc n) =
    let e : (a + 1) + n ≡ a + suc n = omega arith in
    ap (λ (l : List SessionLines). session_by [] a ∷ l) (range_push (a + 1) n ∙ ap (λ (k : ℕ). map (session_by []) (range_with_len (a + 1) n) ++ session_by [] k ∷ []) e)

-- ---- the lines so far

-- the lines before the rest of a script stand in their sessions
pub record Gathered (script rest : List ℕ) (sessions : List SessionLines) (order : List ℕ) : Type 0 where
  pub lines : List ScriptLine
  pub begins : (after : List ScriptLine) → IsScript rest after → IsScript script (lines ++ after)
  pub lawful : AllByRecursion IsLawfulLine lines
  pub kept : sessions ≡ all_sessions lines
  pub ordered : order ≡ order_of lines

pub gathered_none : (script : List ℕ) (sessions : List SessionLines) (order : List ℕ) → sessions ≡ all_sessions [] → order ≡ [] → Gathered script script sessions order
gathered_none script sessions order kept none = record {
  lines = [];
  begins = λ after is. is;
  lawful = tt;
  kept = kept;
  ordered = none;
}

pub gathered_push : (script rest left text : List ℕ) (sessions now : List SessionLines) (order longer : List ℕ) (line : ScriptLine)
    → Gathered script rest sessions order → kept_lines rest ≡ text ∷ kept_lines left → IsLine text line → IsLawfulLine line
    → now ≡ put sessions line.session line.command → longer ≡ order ++ line.session ∷ [] → Gathered script left now longer
gathered_push script rest left text sessions now order longer line g kept is lawful same added = record {
  lines = g.lines ++ line ∷ [];
  begins = λ after h. subst (λ (xs : List ScriptLine). IsScript script xs) (sym (append_assoc g.lines (line ∷ []) after)) (g.begins (line ∷ after) (one_more rest left text line after kept is h));
  lawful = lawful_push g.lines line g.lawful lawful;
  kept = same ∙ ap (λ (xs : List SessionLines). put xs line.session line.command) g.kept ∙ put_in g.lines line 0 (most_sessions + 1) line.session (omega arith) (omega (arith, lawful.0));
  ordered = added ∙ ap (λ (ks : List ℕ). ks ++ line.session ∷ []) g.ordered ∙ sym (order_push g.lines line);
}

pub gathered_all : (script rest : List ℕ) (sessions : List SessionLines) (order : List ℕ) (g : Gathered script rest sessions order) → kept_lines rest ≡ [] → IsScript script g.lines
gathered_all script rest sessions order g none =
    subst (λ (xs : List ScriptLine). IsScript script xs) (append-nil g.lines) (g.begins [] (none_left rest none))

pub gathered_size : (script rest : List ℕ) (sessions : List SessionLines) (order : List ℕ) (g : Gathered script rest sessions order) → length sessions ≡ most_sessions + 1
gathered_size script rest sessions order g = ap (λ (xs : List SessionLines). length xs) g.kept
