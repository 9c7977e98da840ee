-- A file of the grammar is read.
use Rattle.std.proofs.Common.{◌≡◌, ℕ, suc, ◌+◌, ◌<◌, ◌⊎◌, inl, inr, List, [], ◌∷◌, ◌++◌, true, false, length, drop, Option, Some, None, Ok, refl, sym, ap, subst, ◌∙◌, arith, append_assoc, append-nil, length-append, zero-add}
use Rattle.std.specs.List.{concat}
use Rattle.solid_base.specs.Series.{Spells}
use Rattle.iges_cards.specs.declared.reader.Cards.{Cards}
use Rattle.iges_cards.specs.declared.sections.Counts.{Counts}
use Rattle.iges_cards.specs.declared.sections.Section.{Section}
use Rattle.iges_cards.specs.declared.sections.Section.TheVariants as section
use Rattle.iges_cards.specs.Checks.{card_in}
use Rattle.iges_cards.specs.Grammar.{IsCard, AreCards, IsTerminate, counts_of, IsFixedForm}
use Rattle.solid_base.specs.Texts.{IsOneLine}
use Rattle.iges_cards.specs.Lines.{IsLine, line_texts, line_of}
use Rattle.iges_cards.specs.Numbers.{IsNumber}
use Rattle.iges_cards.specs.Reading.{keep, no_cards, read_from, cards_in}
use Rattle.iges_cards.specs.Sections.{may_follow, width_of, is_terminate, count_of, one_more, no_lines}
use Rattle.iges_cards.proofs.CardLaws.{card_again, terminated_again}
use Rattle.iges_cards.proofs.LineLaws.{line_again, line_open, texts_again, texts_last}
use Rattle.iges_cards.proofs.Steps.{reads_on, reads_end}

-- ---- what stands after the cards of a section were read

before_all : Section → List (List ℕ) → Option Section → Option Section
before_all next [] before = before
before_all next (x ∷ xs) before = before_all next xs (Some next)

counts_all : Section → List (List ℕ) → Counts → Counts
counts_all next [] counts = counts
counts_all next (x ∷ xs) counts = counts_all next xs (one_more next counts)

cards_all : Section → List (List ℕ) → Cards → Cards
cards_all next [] cards = cards
cards_all next (x ∷ xs) cards = cards_all next xs (keep next x cards)

count_more : (next : Section) (counts : Counts) → is_terminate next ≡ false → count_of (one_more next counts) next ≡ count_of counts next + 1
count_more section.Start counts h = refl
count_more section.Global counts h = refl
count_more section.Directory counts h = refl
count_more section.Parameter counts h = refl
count_more section.Terminate counts h = cc

-- the cards of a section are read one after the other
runs : (next : Section) (kepts : List (List ℕ)) (k : ℕ) (text rest : List ℕ) (before : Option Section) (counts : Counts) (cards : Cards) (place : ℕ) → is_terminate next ≡ false → may_follow (Some next) next ≡ true
    → (0 < length kepts → may_follow before next ≡ true) → count_of counts next + 1 ≡ k → Spells (IsCard next (width_of next)) k text kepts
    → read_from before counts cards place (line_texts (text ++ rest)) ≡ read_from (before_all next kepts before) (counts_all next kepts counts) (cards_all next kepts cards) (place + length text) (line_texts rest)
unfolding before_all counts_all cards_all
runs next [] k text rest before counts cards place other again may count h =
    let none : length text ≡ 0 = ap length h in
    let same : place ≡ place + length text = omega arith in
    ap (λ t. read_from before counts cards place (line_texts (t ++ rest))) h ∙ ap (λ p. read_from before counts cards p (line_texts rest)) same
runs next (x ∷ xs) k text rest before counts cards place other again may count h =
    let (first, more, whole, is, others) = h in
    let columns = is.columns in
    let texts : line_texts (text ++ rest) ≡ first ∷ line_texts (more ++ rest) =
    ap (λ t. line_texts (t ++ rest)) whole ∙ ap line_texts (append_assoc first more rest) ∙ texts_again first is.line (more ++ rest) is.is_line in
    let here : card_in before counts (line_of first) ≡ Ok (next, columns) = ap (card_in before counts) (line_again first is.line is.is_line) ∙ card_again before counts next columns is.line
    (record { columns_of = is.numbered.columns_of; follows = may (omega arith); letter = is.numbered.letter; sequence = subst (λ n. IsNumber n (drop 73 columns)) (sym count) is.numbered.sequence }) in
    let next_count : count_of (one_more next counts) next + 1 ≡ suc k = omega (arith, count_more next counts other) in
    let after : (place + length first) + length more ≡ place + length text = omega (arith, ap length whole, length-append first more) in
    ap (read_from before counts cards place) texts
    ∙ reads_on before counts cards place first (line_texts (more ++ rest)) next columns other here
    ∙ ap (λ l. read_from (Some next) (one_more next counts) (keep next l cards) (place + length first) (line_texts (more ++ rest))) (sym is.kept_columns)
    ∙ runs next xs (suc k) more rest (Some next) (one_more next counts) (keep next x cards) (place + length first) other again (λ _. again) next_count others
    ∙ ap (λ p. read_from (before_all next xs (Some next)) (counts_all next xs (one_more next counts)) (cards_all next xs (keep next x cards)) p (line_texts rest)) after

-- ---- the same for each section

before_next : (next : Section) (xs : List (List ℕ)) → before_all next xs (Some next) ≡ Some next
unfolding before_all
before_next next [] = refl
before_next next (x ∷ xs) = before_next next xs

before_some : (next : Section) (xs : List (List ℕ)) (before : Option Section) → 0 < length xs → before_all next xs before ≡ Some next
unfolding before_all
before_some next [] before h = absurd (omega arith)
before_some next (x ∷ xs) before h = before_next next xs

start_counts : (xs : List (List ℕ)) (c : Counts) → counts_all section.Start xs c ≡ record c { start = c.start + length xs }
unfolding counts_all
start_counts [] c = let e : c.start ≡ c.start + 0 = omega arith in ap (λ (n : ℕ). record c { start = n }) e
start_counts (x ∷ xs) c = let e : (c.start + 1) + length xs ≡ c.start + suc (length xs) = omega arith in start_counts xs (one_more section.Start c) ∙ ap (λ (n : ℕ). record c { start = n }) e

global_counts : (xs : List (List ℕ)) (c : Counts) → counts_all section.Global xs c ≡ record c { global = c.global + length xs }
unfolding counts_all
global_counts [] c = let e : c.global ≡ c.global + 0 = omega arith in ap (λ (n : ℕ). record c { global = n }) e
global_counts (x ∷ xs) c = let e : (c.global + 1) + length xs ≡ c.global + suc (length xs) = omega arith in global_counts xs (one_more section.Global c) ∙ ap (λ (n : ℕ). record c { global = n }) e

directory_counts : (xs : List (List ℕ)) (c : Counts) → counts_all section.Directory xs c ≡ record c { directory = c.directory + length xs }
unfolding counts_all
directory_counts [] c = let e : c.directory ≡ c.directory + 0 = omega arith in ap (λ (n : ℕ). record c { directory = n }) e
directory_counts (x ∷ xs) c = let e : (c.directory + 1) + length xs ≡ c.directory + suc (length xs) = omega arith in directory_counts xs (one_more section.Directory c) ∙ ap (λ (n : ℕ). record c { directory = n }) e

parameter_counts : (xs : List (List ℕ)) (c : Counts) → counts_all section.Parameter xs c ≡ record c { parameter = c.parameter + length xs }
unfolding counts_all
parameter_counts [] c = let e : c.parameter ≡ c.parameter + 0 = omega arith in ap (λ (n : ℕ). record c { parameter = n }) e
parameter_counts (x ∷ xs) c = let e : (c.parameter + 1) + length xs ≡ c.parameter + suc (length xs) = omega arith in parameter_counts xs (one_more section.Parameter c) ∙ ap (λ (n : ℕ). record c { parameter = n }) e

start_cards : (xs : List (List ℕ)) (c : Cards) → cards_all section.Start xs c ≡ record c { start = c.start ++ xs }
unfolding cards_all
start_cards [] c = ap (λ (l : List (List ℕ)). record c { start = l }) (sym (append-nil c.start))
start_cards (x ∷ xs) c = start_cards xs (keep section.Start x c) ∙ ap (λ (l : List (List ℕ)). record c { start = l }) (append_assoc c.start (x ∷ []) xs)

global_cards : (xs : List (List ℕ)) (c : Cards) → cards_all section.Global xs c ≡ record c { global = c.global ++ concat xs }
unfolding cards_all
global_cards [] c = ap (λ (l : List ℕ). record c { global = l }) (sym (append-nil c.global))
global_cards (x ∷ xs) c = global_cards xs (keep section.Global x c) ∙ ap (λ (l : List ℕ). record c { global = l }) (append_assoc c.global x (concat xs))

directory_cards : (xs : List (List ℕ)) (c : Cards) → cards_all section.Directory xs c ≡ record c { directory = c.directory ++ xs }
unfolding cards_all
directory_cards [] c = ap (λ (l : List (List ℕ)). record c { directory = l }) (sym (append-nil c.directory))
directory_cards (x ∷ xs) c = directory_cards xs (keep section.Directory x c) ∙ ap (λ (l : List (List ℕ)). record c { directory = l }) (append_assoc c.directory (x ∷ []) xs)

parameter_cards : (xs : List (List ℕ)) (c : Cards) → cards_all section.Parameter xs c ≡ record c { params = c.params ++ xs }
unfolding cards_all
parameter_cards [] c = ap (λ (l : List (List ℕ)). record c { params = l }) (sym (append-nil c.params))
parameter_cards (x ∷ xs) c = parameter_cards xs (keep section.Parameter x c) ∙ ap (λ (l : List (List ℕ)). record c { params = l }) (append_assoc c.params (x ∷ []) xs)

-- ---- a whole file

abbrev read_so_far : List (List ℕ) → List ℕ → List (List ℕ) → List (List ℕ) → Cards
read_so_far start global directory params = record { start = start; global = global; directory = directory; params = params; end = 0 }

reads_start : (start : List (List ℕ)) (text rest : List ℕ) → 0 < length start → AreCards section.Start 72 text start
    → read_from None no_lines no_cards 0 (line_texts (text ++ rest)) ≡ read_from (Some section.Start) (counts_of start [] [] []) (read_so_far start [] [] []) (0 + length text) (line_texts rest)
reads_start start text rest some h =
    runs section.Start start 1 text rest None no_lines no_cards 0 refl refl (λ _. refl) refl h
    ∙ (rw (before_some section.Start start None some, start_counts start no_lines, start_cards start no_cards, zero-add (length start)) refl)

reads_global : (start globals : List (List ℕ)) (text rest : List ℕ) (place : ℕ) → 0 < length globals → AreCards section.Global 72 text globals
    → read_from (Some section.Start) (counts_of start [] [] []) (read_so_far start [] [] []) place (line_texts (text ++ rest)) ≡ read_from (Some section.Global) (counts_of start globals [] []) (read_so_far start (concat globals) [] []) (place + length text) (line_texts rest)
reads_global start globals text rest place some h =
    let c = counts_of start [] [] [] in
    runs section.Global globals 1 text rest (Some section.Start) c (read_so_far start [] [] []) place refl refl (λ _. refl) refl h
    ∙ (rw (before_some section.Global globals (Some section.Start) some, global_counts globals c, global_cards globals (read_so_far start [] [] []), zero-add (length globals)) refl)

reads_directory : (start globals directory : List (List ℕ)) (text rest : List ℕ) (place : ℕ) → AreCards section.Directory 80 text directory
    → read_from (Some section.Global) (counts_of start globals [] []) (read_so_far start (concat globals) [] []) place (line_texts (text ++ rest)) ≡ read_from (before_all section.Directory directory (Some section.Global)) (counts_of start globals directory []) (read_so_far start (concat globals) directory []) (place + length text) (line_texts rest)
reads_directory start globals directory text rest place h =
    let c = counts_of start globals [] [] in
    runs section.Directory directory 1 text rest (Some section.Global) c (read_so_far start (concat globals) [] []) place refl refl (λ _. refl) refl h
    ∙ (rw (directory_counts directory c, directory_cards directory (read_so_far start (concat globals) [] []), zero-add (length directory)) refl)

reads_parameter : (start globals directory params : List (List ℕ)) (text rest : List ℕ) (place : ℕ) → (0 < length params → 0 < length directory) → AreCards section.Parameter 64 text params
    → read_from (before_all section.Directory directory (Some section.Global)) (counts_of start globals directory []) (read_so_far start (concat globals) directory []) place (line_texts (text ++ rest))
    ≡ read_from (before_all section.Parameter params (before_all section.Directory directory (Some section.Global))) (counts_of start globals directory params) (read_so_far start (concat globals) directory params) (place + length text) (line_texts rest)
reads_parameter start globals directory params text rest place first h =
    let c = counts_of start globals directory [] in
    let before = before_all section.Directory directory (Some section.Global) in
    runs section.Parameter params 1 text rest before c (read_so_far start (concat globals) directory []) place refl refl
    (λ some. ap (λ b. may_follow b section.Parameter) (before_some section.Directory directory (Some section.Global) (first some))) refl h
    ∙ (rw (parameter_counts params c, parameter_cards params (read_so_far start (concat globals) directory []), zero-add (length params)) refl)

may_end : (directory params : List (List ℕ)) → may_follow (before_all section.Parameter params (before_all section.Directory directory (Some section.Global))) section.Terminate ≡ true
unfolding before_all
may_end [] [] = refl
may_end (d ∷ ds) [] = ap (λ b. may_follow b section.Terminate) (before_next section.Directory ds)
may_end directory (p ∷ ps) = ap (λ b. may_follow b section.Terminate) (before_next section.Parameter ps)

terminate_text : (t rest line : List ℕ) → 0 < length line → IsLine t line ⊎ ((t ≡ line) × (rest ≡ []) × IsOneLine line) → (line_texts (t ++ rest) ≡ t ∷ line_texts rest) × (line_of t ≡ line)
unfolding line_texts
terminate_text t rest line some (inl h) = (texts_again t line rest h, line_again t line h)
terminate_text t rest line some (inr h) =
    let one : IsOneLine t = subst IsOneLine (sym h.0) h.2 in
    let some_t : 0 < length t = omega (arith, ap length h.0) in
    let texts : line_texts (t ++ rest) ≡ t ∷ line_texts rest = rw (h.1, append-nil t) (texts_last t some_t one) in
    (texts, line_open t one ∙ h.0)

reads_terminate : (before : Option Section) (counts : Counts) (cards : Cards) (place : ℕ) (t rest : List ℕ) → may_follow before section.Terminate ≡ true → IsTerminate counts t rest
    → read_from before counts cards place (line_texts (t ++ rest)) ≡ Ok (record cards { end = place + length t })
reads_terminate before counts cards place t rest may h =
    let n = h.numbered in
    let some : 0 < length h.line = omega (arith, ap length n.columns_of.spelt, length-append h.columns n.columns_of.tail, n.columns_of.eighty) in
    let (texts, line) = terminate_text t rest h.line some h.is_line in
    let here : card_in before counts (line_of t) ≡ Ok (section.Terminate, h.columns) = ap (card_in before counts) line ∙ card_again before counts section.Terminate h.columns h.line
    (record { columns_of = n.columns_of; follows = may; letter = n.letter; sequence = n.sequence }) in
    ap (read_from before counts cards place) texts ∙ reads_end before counts cards place t (line_texts rest) h.columns counts here (terminated_again counts h.columns h.groups)

regroup : (s g d p t : List ℕ) → (((s ++ g) ++ d) ++ p) ++ t ≡ s ++ (g ++ (d ++ (p ++ t)))
regroup s g d p t = simp append_assoc

same_cards : (cards : Cards) (global : List ℕ) (end : ℕ) → cards.global ≡ global → cards.end ≡ end → record { start = cards.start; global = global; directory = cards.directory; params = cards.params; end = end } ≡ cards
same_cards cards global end g e =
    let both : record { start = cards.start; global = global; directory = cards.directory; params = cards.params; end = end } ≡ record { start = cards.start; global = cards.global; directory = cards.directory; params = cards.params; end = cards.end } = rw (g, e) refl in
    both

pub cards_again : (bytes : List ℕ) (cards : Cards) → IsFixedForm bytes cards → cards_in bytes ≡ Ok cards
unfolding cards_in
cards_again bytes cards h =
    let s = h.sections in
    let last = h.terminate_text ++ h.rest in
    let whole : bytes ≡ s.start_text ++ (s.global_text ++ (s.directory_text ++ (s.parameter_text ++ last))) =
    h.spelt ∙ ap (λ t. t ++ last) s.spelt ∙ regroup s.start_text s.global_text s.directory_text s.parameter_text last in
    let place = (((0 + length s.start_text) + length s.global_text) + length s.directory_text) + length s.parameter_text in
    let end : cards.end ≡ place + length h.terminate_text = omega (
      arith,
      h.end,
      ap length s.spelt,
      length-append ((s.start_text ++ s.global_text) ++ s.directory_text) s.parameter_text,
      length-append (s.start_text ++ s.global_text) s.directory_text,
      length-append s.start_text s.global_text,
    ) in
    ap (λ b. read_from None no_lines no_cards 0 (line_texts b)) whole
    ∙ reads_start cards.start s.start_text _ h.some_start s.start_lines
    ∙ reads_global cards.start h.globals s.global_text _ _ h.some_global s.global_lines
    ∙ reads_directory cards.start h.globals cards.directory s.directory_text _ _ s.directory_lines
    ∙ reads_parameter cards.start h.globals cards.directory cards.params s.parameter_text _ _ h.directory_first s.parameter_lines
    ∙ reads_terminate _ _ (read_so_far cards.start (concat h.globals) cards.directory cards.params) place h.terminate_text h.rest (may_end cards.directory cards.params) h.terminate
    ∙ ap (λ (c : Cards). Ok c) (same_cards cards (concat h.globals) (place + length h.terminate_text) h.joined end)
