-- The lines of a script done one after the other, and their replies counted.
use Rattle.std.proofs.Common.{◌≡◌, ◌≢◌, ◌⊎◌, inl, inr, ℕ, suc, ◌+◌, ◌<◌, ◌≤◌, Bool, cond, List, [], ◌∷◌, ◌++◌, length, set, refl, sym, ap, subst, ◌∙◌, append_assoc, append-nil, arith, length-append}
use Rattle.std.specs.List.{count_by}
use Rattle.std.proofs.lemmas.Bool.{cases_eq}
use Rattle.std.proofs.lemmas.List.{length-replicate, length-set, get_or-replicate, get_or-set_same, get_or-set_other}
use Rattle.std.proofs.lemmas.List.Sums.{sum_by-append, sum_by-cons, count_by-le-length}
use Rattle.solid_base.specs.declared.entities.Model.{Model}
use Rattle.script_lines.specs.declared.commands.ScriptLine.{ScriptLine}
use Rattle.script_lines.specs.Grammar.{most_sessions}
use Rattle.script_lines.specs.Scripts.{IsScript}
use Rattle.edit_core.specs.Versions.{LogEntry}
use Rattle.ask_core.specs.Books.{BookFacts}
use Rattle.solid_desk.specs.InOrder.{all_at_start, standing_of, IsDone, IsRun, IsRunFrom, HadMemory}
use Rattle.solid_desk.specs.Outcomes.{Outcome, no_memory}
use Rattle.solid_desk.specs.Sessions.{Standing, at_start, standing_after}
use Rattle.solid_top.specs.Load.{has_words, begins_with, inside_words, outside_words, undecided_words}
use Rattle.solid_top.proofs.LoadGraph.{all_joined}

-- ---- counts

count_more : (p : Outcome → Bool) (outcomes : List Outcome) (outcome : Outcome) → count_by p (outcomes ++ outcome ∷ []) ≡ count_by p outcomes + cond (p outcome) 1 0
count_more p outcomes outcome =
    let f : Outcome → ℕ = λ (x : Outcome). cond (p x) 1 0 in
    let joined = sum_by-append f outcomes (outcome ∷ []) in
    let last = sum_by-cons f outcome [] in
    omega (arith, joined, last)

-- ---- the lines so far

-- the lines before the rest of a script are done, and their replies counted
pub record Tallied (opening : Model) (script rest : List ℕ) (book : BookFacts) (standings : List Standing) (inside outside undecided : ℕ) : Type 0 where
  pub lines : List ScriptLine
  pub outcomes : List Outcome
  pub begins : (after : List ScriptLine) → IsScript rest after → IsScript script (lines ++ after)
  pub same : book.opening ≡ opening
  pub runs : (after : List ScriptLine) (outs : List Outcome) (final : List LogEntry) → IsRunFrom opening standings book.log after outs final → IsRun opening (lines ++ after) (outcomes ++ outs) final
  pub memory : HadMemory outcomes
  pub few : length outcomes + length rest ≤ length script
  pub size : length standings ≡ most_sessions + 1
  pub numbers : (k : ℕ) → k < most_sessions + 1 → (standing_of standings k).line ≤ suc (length outcomes)
  pub is_inside : inside ≡ count_by (has_words inside_words) outcomes
  pub is_outside : outside ≡ count_by (has_words outside_words) outcomes
  pub is_undecided : undecided ≡ count_by (begins_with undecided_words) outcomes

pub tallied_none : (script : List ℕ) (book : BookFacts) (standings : List Standing) → book.log ≡ [] → standings ≡ all_at_start → Tallied book.opening script script book standings 0 0 0
tallied_none script book standings empty start = record {
  lines = [];
  outcomes = [];
  begins = λ after is. is;
  same = refl;
  runs = λ after outs final h. subst (λ (log : List LogEntry). IsRunFrom book.opening all_at_start log after outs final) empty
      (subst (λ (s : List Standing). IsRunFrom book.opening s book.log after outs final) start h);
  memory = tt;
  few = omega arith;
  size = ap (length {A = Standing}) start ∙ length-replicate (most_sessions + 1) at_start;
  numbers = λ k within. (let one : (standing_of standings k).line ≡ 1 =
      ap (λ (s : List Standing). (standing_of s k).line) start ∙ ap (λ (s : Standing). s.line) (get_or-replicate (most_sessions + 1) k at_start at_start within) in omega (arith, one));
  is_inside = refl;
  is_outside = refl;
  is_undecided = refl;
}

module _ (opening : Model) (script rest : List ℕ) (book : BookFacts) (standings : List Standing) (inside outside undecided : ℕ) (t : Tallied opening script rest book standings inside outside undecided) where
  -- the counts and the numbers of the lines are small
  pub counts_small : (inside ≤ length script) × (outside ≤ length script) × (undecided ≤ length script)
  counts_small =
      let few = t.few in
      let a = t.is_inside in let b = t.is_outside in let c = t.is_undecided in
      let x = count_by-le-length (has_words inside_words) t.outcomes in
      let y = count_by-le-length (has_words outside_words) t.outcomes in
      let z = count_by-le-length (begins_with undecided_words) t.outcomes in
      (omega (arith, few, a, x), omega (arith, few, b, y), omega (arith, few, c, z))

  pub line_small : (k : ℕ) → k < most_sessions + 1 → (standing_of standings k).line ≤ length script + 1
  line_small k within = let few = t.few in let number = t.numbers k within in omega (arith, few, number)

  -- one line more
  pub tallied_push : (left : List ℕ) (now : BookFacts) (new : List Standing) (inside_now outside_now undecided_now : ℕ) (line : ScriptLine) (outcome : Outcome)
      → ((more : List ScriptLine) → IsScript left more → IsScript rest (line ∷ more)) → length left < length rest → line.session ≤ most_sessions → outcome ≢ no_memory
      → IsDone book.opening book.log line.session (standing_of standings line.session) line.command outcome now.log → now.opening ≡ book.opening
      → new ≡ set standings line.session (standing_after (standing_of standings line.session) line.command outcome)
      → inside_now ≡ inside + cond (has_words inside_words outcome) 1 0 → outside_now ≡ outside + cond (has_words outside_words outcome) 1 0
      → undecided_now ≡ undecided + cond (begins_with undecided_words outcome) 1 0
      → Tallied opening script left now new inside_now outside_now undecided_now
  tallied_push left now new inside_now outside_now undecided_now line outcome next shorter within had done kept put more_inside more_outside more_undecided =
      let here : IsDone opening book.log line.session (standing_of standings line.session) line.command outcome now.log =
      subst (λ (m : Model). IsDone m book.log line.session (standing_of standings line.session) line.command outcome now.log) t.same done in
      let after = standing_after (standing_of standings line.session) line.command outcome in
      let grown = length-append t.outcomes (outcome ∷ []) in
      record {
        lines = t.lines ++ line ∷ [];
        outcomes = t.outcomes ++ outcome ∷ [];
        begins = λ more h. subst (λ (xs : List ScriptLine). IsScript script xs) (sym (append_assoc t.lines (line ∷ []) more)) (t.begins (line ∷ more) (next more h));
        same = kept ∙ t.same;
        runs = λ more outs final h. subst (λ (xs : List ScriptLine). IsRun opening xs ((t.outcomes ++ outcome ∷ []) ++ outs) final) (sym (append_assoc t.lines (line ∷ []) more))
            (subst (λ (os : List Outcome). IsRun opening (t.lines ++ line ∷ more) os final) (sym (append_assoc t.outcomes (outcome ∷ []) outs))
            (t.runs (line ∷ more) (outcome ∷ outs) final (now.log, here, subst (λ (s : List Standing). IsRunFrom opening s now.log more outs final) put h)));
        memory = all_joined (λ (o : Outcome). o ≡ no_memory → ⊥) t.outcomes (outcome ∷ []) t.memory (had, tt);
        few = (let few = t.few in omega (arith, few, shorter, grown));
        size = ap (length {A = Standing}) put ∙ length-set standings line.session after ∙ t.size;
        numbers = λ k inside_them. (let at = numbers_next k inside_them (cases_eq k line.session) in at);
        is_inside = (let old = t.is_inside in let sum = count_more (has_words inside_words) t.outcomes outcome in omega (arith, old, sum, more_inside));
        is_outside = (let old = t.is_outside in let sum = count_more (has_words outside_words) t.outcomes outcome in omega (arith, old, sum, more_outside));
        is_undecided = (let old = t.is_undecided in let sum = count_more (begins_with undecided_words) t.outcomes outcome in omega (arith, old, sum, more_undecided));
      } where
        numbers_next : (k : ℕ) → k < most_sessions + 1 → (k ≡ line.session) ⊎ (k ≢ line.session) → (standing_of new k).line ≤ suc (length (t.outcomes ++ outcome ∷ []))
        numbers_next k small (inl same) =
            let grown = length-append t.outcomes (outcome ∷ []) in
            let after = standing_after (standing_of standings line.session) line.command outcome in
            let room : line.session < length standings = (let size = t.size in omega (arith, size, within)) in
            let is : standing_of new k ≡ after = ap (λ (s : List Standing). standing_of s k) put ∙ ap (standing_of (set standings line.session after)) same ∙ get_or-set_same standings line.session after at_start room in
            let old = t.numbers line.session (omega (arith, within)) in
            let now_at = ap (λ (s : Standing). s.line) is in
            omega (arith, grown, old, now_at)
        numbers_next k small (inr other) =
            let grown = length-append t.outcomes (outcome ∷ []) in
            let after = standing_after (standing_of standings line.session) line.command outcome in
            let is : standing_of new k ≡ standing_of standings k = ap (λ (s : List Standing). standing_of s k) put ∙ get_or-set_other standings line.session k after at_start other in
            let old = t.numbers k small in
            let now_at = ap (λ (s : Standing). s.line) is in
            omega (arith, grown, old, now_at)

  -- the run of all lines
  pub tallied_run : IsRun opening t.lines t.outcomes book.log
  tallied_run = subst (λ (xs : List ScriptLine). IsRun opening xs t.outcomes book.log) (append-nil t.lines)
      (subst (λ (os : List Outcome). IsRun opening (t.lines ++ []) os book.log) (append-nil t.outcomes) (t.runs [] [] book.log refl))

  pub tallied_script : IsScript rest [] → IsScript script t.lines
  tallied_script end = subst (λ (xs : List ScriptLine). IsScript script xs) (append-nil t.lines) (t.begins [] end)
