use Rattle.std.proofs.Common.{◌≡◌, ◌∙◌, ◌+◌, ◌++◌, ◌∷◌, [], List, map, ap, sym, add-one, ℕ, arith}
use Rattle.std.specs.List.{range_with_len}
use Rattle.script_lines.specs.declared.commands.Command.{Command}
use Rattle.script_lines.specs.declared.commands.SessionLines.{SessionLines}
use Rattle.script_lines.specs.Sessions.{session_by}
use Rattle.script_lines.proofs.SessionLaws.{range_push}
use Rattle.script_lines.proofs.sessions.new_sessions.Goals as goal

pub loop-session-preserved : goal.loop-session-preserved
loop-session-preserved c =
    let k = c.loop-session.session in
    let zero_k : k ≡ 0 + k = omega arith in
    c.in_ok-push.ensures.items
    ∙ ap (λ (cs : List Command). c.loop-session.sessions.items ++ record { session = k; commands = cs } ∷ []) c.new-commands.ensures
    ∙ ap (λ (l : List SessionLines). l ++ session_by [] k ∷ []) c.loop-session.invariant
    ∙ ap (λ (n : ℕ). map (session_by []) (range_with_len 0 k) ++ session_by [] n ∷ []) zero_k
    ∙ sym (range_push 0 k)
    ∙ ap (λ (n : ℕ). map (session_by []) (range_with_len 0 n)) (sym (add-one k))
