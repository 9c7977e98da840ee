use Rattle.std.proofs.Common.{rules, ◌≡◌, ◌∙◌, ◌++◌, List, ℕ, refl, sym, ap, subst}
use mathlib.Core.List.{IsPrefix}
use Rattle.edit_core.specs.EditFaults.{IsOfText}
use Rattle.edit_core.specs.Versions.{Version}
use Rattle.solid_desk.specs.Outcomes.{refused, reply_of, reply_text}
use Rattle.solid_desk.proofs.LineSteps.{cut_to, made_then, refused_done}
use Rattle.solid_desk.proofs.lines.make.Goals as goal

pub returns-in-Ok-clause-made : goal.returns-in-Ok-clause-made
returns-in-Ok-clause-made c =
    let number = c.version-version.ensures ∙ ap (λ (v : Version). v.number) c.table-2.ensures in
    made_then c.args.book.now c.commit-2.new.self c.args.commit c.version-version.result c.in-Ok.made c.args.out.now c.push_committed.new.out c.obeys.ensures
    c.in-Ok.ensures.next c.in-Ok.ensures.log c.in-Ok.ensures.version c.in-Ok.ensures.opening c.in-Ok.ensures.memo number c.in_ok-push_committed.ensures.ok

pub returns-in_err-push_refused-in-Err : goal.returns-in_err-push_refused-in-Err
returns-in_err-push_refused-in-Err c =
    let cut = cut_to c.args.out.now c.push_committed.new.out c.truncate.new.self c.len-start.result c.len-start.ensures c.in_ok-push_committed.ensures.front c.truncate.ensures in
    record {
      made = search rules;
      front = subst (λ (t : List ℕ). IsPrefix t c.push_refused.new.out) cut c.push_refused.ensures.front;
      unchanged = search rules;
    }

pub returns-in_ok-push_refused-in-Err : goal.returns-in_ok-push_refused-in-Err
returns-in_ok-push_refused-in-Err c =
    let fault = c.in-Err.fault in
    let of_text : IsOfText fault = search rules in
    let version = c.version-version.result in
    let number = c.version-version.ensures ∙ ap (λ (v : Version). v.number) c.table-2.ensures in
    let cut = cut_to c.args.out.now c.push_committed.new.out c.truncate.new.self c.len-start.result c.len-start.ensures c.in_ok-push_committed.ensures.front c.truncate.ensures in
    let added : c.push_refused.new.out ≡ c.args.out.now ++ reply_text (reply_of (refused version fault)) =
    c.in_ok-push_refused-in-Err.ensures.ok ∙ ap (λ (t : List ℕ). t ++ reply_text (reply_of (refused version fault))) cut in
    record {
      made = (refused version fault, refused_done c.args.book.now c.commit-2.new.self c.args.commit version fault c.obeys.ensures (c.in-Err.ensures.first_fault of_text) number c.in-Err.ensures.unchanged, refl, added);
      front = (reply_text (reply_of (refused version fault)), sym added);
      unchanged = tt;
    }
