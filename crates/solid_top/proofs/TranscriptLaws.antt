-- The text of a run is made of the replies of its sessions, one after the other.
use Rattle.std.proofs.Common.{◌≡◌, ℕ, zero, suc, ◌+◌, ◌<◌, ◌≤◌, List, [], ◌∷◌, ◌++◌, length, take, get_or, codes, sym, ap, subst, ◌∙◌, add-one, append-nil, append_assoc, arith}
use Rattle.std.proofs.lemmas.List.{take_all}
use Rattle.std.specs.List.{flat_map}
use Rattle.solid_base.specs.declared.replies.Reply.{Reply}
use Rattle.edit_core.specs.Versions.{LogEntry}
use Rattle.solid_desk.specs.Outcomes.{reply_text}
use Rattle.solid_top.specs.declared.transcripts.Served.{Served}
use Rattle.solid_top.specs.Output.{log_text, session_text}
use Rattle.solid_top.specs.Serving.{served_text, whole_text}
use Rattle.solid_top.proofs.SessionLaws.{log_head, log_joined}

-- ---- the replies of a session

replies_more : (rs : List Reply) (i : ℕ) (d : Reply) → i < length rs → flat_map reply_text (take (suc i) rs) ≡ flat_map reply_text (take i rs) ++ reply_text (get_or rs i d)
replies_more [] i d within = absurd (omega (arith, within))
replies_more (r ∷ rs) zero d within = append-nil (reply_text r)
replies_more (r ∷ rs) (suc i) d within =
    ap (λ t. reply_text r ++ t) (replies_more rs i d (omega (arith, within))) ∙ sym (append_assoc (reply_text r) (flat_map reply_text (take i rs)) (reply_text (get_or rs i d)))

pub replies_push : (out : List ℕ) (rs : List Reply) (i : ℕ) (d : Reply) (text new : List ℕ) → i < length rs → d ≡ get_or rs i d → text ≡ out ++ flat_map reply_text (take i rs) → new ≡ text ++ reply_text d
    → new ≡ out ++ flat_map reply_text (take (i + 1) rs)
replies_push out rs i d text new within is so_far added =
    subst (λ (n : ℕ). new ≡ out ++ flat_map reply_text (take n rs)) (sym (add-one i))
    (added ∙ ap (λ (r : Reply). text ++ reply_text r) is ∙ ap (λ t. t ++ reply_text (get_or rs i d)) so_far ∙ append_assoc out (flat_map reply_text (take i rs)) (reply_text (get_or rs i d)) ∙ ap (λ t. out ++ t) (sym (replies_more rs i d within)))

pub replies_end : (out : List ℕ) (rs : List Reply) (i : ℕ) (text : List ℕ) → length rs ≤ i → text ≡ out ++ flat_map reply_text (take i rs) → text ≡ out ++ flat_map reply_text rs
replies_end out rs i text all so_far = so_far ∙ ap (λ (l : List Reply). out ++ flat_map reply_text l) (take_all i rs all)

-- ---- the sessions

abbrev text_of : Served → List ℕ
text_of one = session_text one.session one.replies

sessions_more : (ss : List Served) (i : ℕ) (d : Served) → i < length ss → served_text (take (suc i) ss) ≡ served_text (take i ss) ++ text_of (get_or ss i d)
sessions_more [] i d within = absurd (omega (arith, within))
sessions_more (s ∷ ss) zero d within = append-nil (text_of s)
sessions_more (s ∷ ss) (suc i) d within =
    ap (λ t. text_of s ++ t) (sessions_more ss i d (omega (arith, within))) ∙ sym (append_assoc (text_of s) (served_text (take i ss)) (text_of (get_or ss i d)))

pub sessions_push : (front : List ℕ) (ss : List Served) (i : ℕ) (d : Served) (text new : List ℕ) → i < length ss → d ≡ get_or ss i d → text ≡ front ++ served_text (take i ss) → new ≡ text ++ text_of d
    → new ≡ front ++ served_text (take (i + 1) ss)
sessions_push front ss i d text new within is so_far added =
    subst (λ (n : ℕ). new ≡ front ++ served_text (take n ss)) (sym (add-one i))
    (added ∙ ap (λ (s : Served). text ++ text_of s) is ∙ ap (λ t. t ++ text_of (get_or ss i d)) so_far ∙ append_assoc front (served_text (take i ss)) (text_of (get_or ss i d)) ∙ ap (λ t. front ++ t) (sym (sessions_more ss i d within)))

pub sessions_end : (log : List LogEntry) (ss : List Served) (i : ℕ) (text whole : List ℕ) → length ss ≤ i → text ≡ (log_head log ++ log_text 1 log) ++ served_text (take i ss) → whole ≡ text ++ codes "END\n"
    → whole ≡ whole_text log ss
sessions_end log ss i text whole all so_far ends =
    let front = log_head log ++ log_text 1 log in
    let here : text ≡ front ++ served_text ss = so_far ∙ ap (λ (l : List Served). front ++ served_text l) (take_all i ss all) in
    ends ∙ ap (λ t. t ++ codes "END\n") here ∙ append_assoc front (served_text ss) (codes "END\n") ∙ log_joined log (served_text ss ++ codes "END\n")
