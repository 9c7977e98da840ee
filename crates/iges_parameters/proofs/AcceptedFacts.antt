-- Worked models: one that is accepted, and for each rule one that isn't.
use Rattle.std.proofs.Common.{◌≡◌, ◌≤◌, ◌⊎◌, inl, inr, ℕ, zero, suc, ◌+◌, ◌*◌, ◌^◌, List, [], ◌∷◌, ◌++◌, length, replicate, codes, decimal, pos, Bool, true, false, not, ◌==◌, ◌/◌, ◌%◌, ◌<◌, cond, None, slice_get, get_or, length-append, refl, ap, subst, ◌∙◌, arith}
use Rattle.std.specs.List.{Contains, list_all}
use Rattle.std.proofs.lemmas.Bool.Decides.{nat_tests}
use Rattle.std.proofs.lemmas.Fmt.{decimal_digit, decimal_step}
use Rattle.std.proofs.lemmas.Int.{ints}
use Rattle.solid_base.specs.declared.geometry.Vec3.{Vec3}
use Rattle.solid_base.specs.declared.entities.Entity.{Entity}
use Rattle.solid_base.specs.declared.entities.Model.{Model}
use Rattle.solid_base.specs.declared.entities.Token.{Token}
use Rattle.solid_base.specs.declared.entities.Token.TheVariants as token
use Rattle.solid_base.specs.declared.solids.Primitive.TheVariants as prim
use Rattle.solid_base.specs.declared.solids.Row.{Row}
use Rattle.solid_base.specs.declared.solids.Row.TheVariants as row
use Rattle.solid_base.specs.Spelling.{IsWhole, sign_text}
use Rattle.solid_base.specs.References.{row_at, row_or_null, references_of}
use Rattle.solid_base.specs.Graph.{AreSound, depth_of, depth_within, weight_of, weight_within, row_weight}
use Rattle.solid_base.specs.Texts.{IsOneLine, blank_attributes}
use Rattle.decimal_scale.specs.Writing.{real_text, last_digits}
use Rattle.iges_fields.specs.Layout.{laid}
use Rattle.iges_parameters.specs.Accepted.{IsAccepted, IsAcceptedEntity, lines_of, global_text}
use Rattle.iges_parameters.specs.Tables.{is_read, sphere_rules}
use Rattle.iges_parameters.specs.Writing.{record_text, parameters_of, tokens_by, real, lines_for, kept_text}
use Rattle.iges_parameters.specs.WrittenRows.{IsLaid}

-- ---- a model of one sphere, in the smallest file

abbrev origin : Vec3
origin = record { x = pos 0; y = pos 0; z = pos 0 }

-- a sphere of radius 1 round the origin
abbrev sphere : Row
sphere = row.Prim (prim.Sphere (pos (10 ^ 12)) origin) 0

-- an entity with no fields of its own
abbrev plain : Row → Entity
plain r = record { row = r; attrs = blank_attributes; tail = [] }

-- a model with these entities, a start line of blanks and no global parameters but the delimiters
abbrev model_of : List Entity → Model
model_of rows = record { start = replicate 72 32 ∷ []; comma = 44; semi = 59; global = []; rows = rows }

one_text : real_text (pos (10 ^ 12)) 12 ≡ codes "1.0"
unfolding last_digits
one_text = ap (λ (d : List ℕ). d ++ codes ".0") (decimal_digit 1 (omega arith))

zero_text : real_text (pos 0) 12 ≡ codes "0.0"
unfolding last_digits
zero_text = ap (λ (d : List ℕ). d ++ codes ".0") (decimal_digit 0 (omega arith))

kind_text : decimal 158 ≡ codes "158"
kind_text =
    decimal_step 158 (omega arith) (omega arith)
    ∙ ap (λ (d : List ℕ). d ++ 56 ∷ []) (decimal_step 15 (omega arith) (omega arith) ∙ ap (λ (d : List ℕ). d ++ 53 ∷ []) (decimal_digit 1 (omega arith)))

sphere_text : record_text 44 59 sphere [] ≡ codes "158,1.0,0.0,0.0,0.0;"
unfolding record_text parameters_of tokens_by sphere_rules laid
sphere_text =
    ap (λ (kind : List ℕ). laid 64 44 59 0 (token.Whole kind ∷ real (pos (10 ^ 12)) ∷ real (pos 0) ∷ real (pos 0) ∷ real (pos 0) ∷ [])) kind_text
    ∙ ap (λ (one : List ℕ). laid 64 44 59 0 (token.Whole (codes "158") ∷ token.Real one ∷ real (pos 0) ∷ real (pos 0) ∷ real (pos 0) ∷ [])) one_text
    ∙ ap (λ (nil : List ℕ). laid 64 44 59 0 (token.Whole (codes "158") ∷ token.Real (codes "1.0") ∷ token.Real nil ∷ token.Real nil ∷ token.Real nil ∷ [])) zero_text

-- ---- it is accepted

-- a text whose bytes are tested is of one line
one_line : (text : List ℕ) → list_all (λ b. not (b == 10)) text ≡ true → IsOneLine text
one_line [] h = tt
one_line (b ∷ text) h = (grind (arith, nat_tests, h), one_line text (grind (arith, nat_tests, h)))

abbrev rows : List Entity
rows = plain sphere ∷ []

sphere_or_null : (e : ℕ) → (row_at rows e ≡ row.Null) ⊎ (row_at rows e ≡ sphere)
unfolding row_at
sphere_or_null e = go (e % 2 == 1) (e / 2) where
  go : (odd : Bool) (n : ℕ) → (row_or_null (cond odd (slice_get rows n) None) ≡ row.Null) ⊎ (row_or_null (cond odd (slice_get rows n) None) ≡ sphere)
  go false n = inl refl
  go true zero = inr refl
  go true (suc n) = inl refl

no_references : (e : ℕ) → references_of (row_at rows e) ≡ []
unfolding references_of
no_references e = go (sphere_or_null e) where
  go : (row_at rows e ≡ row.Null) ⊎ (row_at rows e ≡ sphere) → references_of (row_at rows e) ≡ []
  go (inl h) = ap references_of h
  go (inr h) = ap references_of h

weighs_little : (weight : ℕ → ℕ) (e : ℕ) → row_weight weight (row_at rows e) ≤ 1
weighs_little weight e = go (sphere_or_null e) where
  go : (row_at rows e ≡ row.Null) ⊎ (row_at rows e ≡ sphere) → row_weight weight (row_at rows e) ≤ 1
  go (inl h) = rw h (omega arith)
  go (inr h) = rw h (omega arith)

sphere_sound : AreSound rows
unfolding depth_of depth_within weight_of weight_within
sphere_sound = record {
  present = λ e. rw (no_references e) tt;
  directed = λ e. rw (no_references e) tt;
  acyclic = λ e cycle. (let none : Contains {X = ℕ} [] cycle.next = rw (no_references cycle.on) at cycle.refers in omega (arith, none.1));
  shallow = λ e. rw (no_references e) (omega arith);
  light = λ e. omega (arith, weighs_little (weight_within 63 rows) e);
}

not_unread : (kind form matrix : ℕ) (text : List ℕ) → sphere ≡ row.Opaque kind form matrix text → ⊥
not_unread kind form matrix text is = (let laid : IsLaid sphere = tt in subst IsLaid is laid)

sphere_accepted : IsAcceptedEntity (plain sphere)
sphere_accepted = record {
  attributes = refl;
  attributes_in_line = one_line blank_attributes refl;
  lawful = ((omega (arith, ints), omega (arith, ints)), ((omega (arith, ints), omega (arith, ints)), (omega (arith, ints), omega (arith, ints)), (omega (arith, ints), omega (arith, ints))));
  matrix = omega arith;
  tail_spelt = tt;
  tail_in_line = tt;
  tail_of_row = tt;
  blank_where_null = λ is. refl;
  kept_where_unread = λ kind form matrix text is. absurd (not_unread kind form matrix text is);
}

sphere_lines : lines_of 44 59 rows ≡ 1
sphere_lines = ap (λ (text : List ℕ). lines_for (length text) + 0) sphere_text

delimiters_text : global_text (model_of rows) ≡ codes "1H,,1H;;"
unfolding laid
delimiters_text = ap (λ (one : List ℕ). laid 72 44 59 0 (token.Whole (one ++ 72 ∷ 44 ∷ []) ∷ token.Whole (one ++ 72 ∷ 59 ∷ []) ∷ [])) (decimal_digit 1 (omega arith))

one_sphere : IsAccepted (model_of rows)
one_sphere = record {
  few_entities = omega arith;
  entities = (sphere_accepted, tt);
  references = sphere_sound;
  few_lines = omega (arith, sphere_lines);
  delimiters = (refl, refl, (λ same. omega (arith, same)));
  some_start = omega arith;
  few_start = omega arith;
  start_lines = ((refl, one_line (replicate 72 32) refl), tt);
  global_spelt = tt;
  global_in_line = tt;
  few_global = rw delimiters_text (omega arith);
}

-- ---- models that are not

no_digits : ¬ IsWhole []
no_digits w = (let size = ap (length {A = ℕ}) w.spelt in let more = length-append (sign_text w.sign) w.digits in omega (arith, size, more, w.some))

too_many_entities : (rows : List Entity) → 100000 < length rows → ¬ IsAccepted (model_of rows)
too_many_entities rows many a = omega (arith, many, a.few_entities)

same_delimiters : ¬ IsAccepted (record { start = replicate 72 32 ∷ []; comma = 44; semi = 44; global = []; rows = [] })
same_delimiters a = a.delimiters.2 refl

letter_as_delimiter : ¬ IsAccepted (record { start = replicate 72 32 ∷ []; comma = 72; semi = 59; global = []; rows = [] })
letter_as_delimiter a = (let no : ◌≡◌ {A = ℕ} 0 1 = ap (λ (b : Bool). cond b 1 0) a.delimiters.0 in omega (arith, no))

no_start_line : ¬ IsAccepted (record { start = []; comma = 44; semi = 59; global = []; rows = [] })
no_start_line a = omega (arith, a.some_start)

too_many_start_lines : (lines : List (List ℕ)) → 9999999 < length lines → ¬ IsAccepted (record { start = lines; comma = 44; semi = 59; global = []; rows = [] })
too_many_start_lines lines many a = omega (arith, many, a.few_start)

short_start_line : ¬ IsAccepted (record { start = replicate 71 32 ∷ []; comma = 44; semi = 59; global = []; rows = [] })
short_start_line a = absurd (let wide : 71 ≡ 72 = a.start_lines.0.0 in omega (arith, wide))

start_line_of_two_lines : ¬ IsAccepted (record { start = (10 ∷ replicate 71 32) ∷ []; comma = 44; semi = 59; global = []; rows = [] })
start_line_of_two_lines a = a.start_lines.0.1.0 refl

-- a whole number without digits among the global parameters
global_not_spelt : ¬ IsAccepted (record { start = replicate 72 32 ∷ []; comma = 44; semi = 59; global = token.Whole [] ∷ []; rows = [] })
global_not_spelt a = no_digits a.global_spelt.0

global_of_two_lines : ¬ IsAccepted (record { start = replicate 72 32 ∷ []; comma = 44; semi = 59; global = token.Text (10 ∷ []) ∷ []; rows = [] })
global_of_two_lines a = a.global_in_line.0.0 refl

-- a sphere that is moved by a matrix that isn't there
dangling : ¬ IsAccepted (model_of (plain (row.Prim (prim.Sphere (pos (10 ^ 12)) origin) 3) ∷ []))
unfolding row_at references_of
dangling a = (let here = a.references.present 1 in here.0 refl)

kept_size : (text : List ℕ) → length text ≤ length (kept_text text)
kept_size [] = omega arith
kept_size (b ∷ text) = omega arith

-- a record of one byte more than the lines that a model may have
too_many_lines : (text : List ℕ) → length text ≡ 64 * 300000 + 1 → ¬ IsAccepted (model_of (plain (row.Opaque 110 0 0 text) ∷ []))
unfolding record_text
too_many_lines text long a = omega (arith, long, a.few_lines, kept_size text)

-- ---- entities that are not

attributes_too_short : ¬ IsAcceptedEntity (record { row = sphere; attrs = replicate 95 32; tail = [] })
attributes_too_short a = (let wide : 95 ≡ 96 = a.attributes in omega (arith, wide))

attributes_of_two_lines : ¬ IsAcceptedEntity (record { row = sphere; attrs = 10 ∷ replicate 95 32; tail = [] })
attributes_of_two_lines a = a.attributes_in_line.0 refl

radius_of_0 : ¬ IsAcceptedEntity (plain (row.Prim (prim.Sphere (pos 0) origin) 0))
radius_of_0 a = omega (arith, ints, a.lawful.0.0)

matrix_of_eight_digits : ¬ IsAcceptedEntity (plain (row.Prim (prim.Sphere (pos (10 ^ 12)) origin) 10000000))
matrix_of_eight_digits a = omega (arith, a.matrix)

tail_not_spelt : ¬ IsAcceptedEntity (record { row = sphere; attrs = blank_attributes; tail = token.Whole [] ∷ [] })
tail_not_spelt a = no_digits a.tail_spelt.0

tail_of_two_lines : ¬ IsAcceptedEntity (record { row = sphere; attrs = blank_attributes; tail = token.Text (10 ∷ []) ∷ [] })
tail_of_two_lines a = a.tail_in_line.0.0 refl

tail_of_null : ¬ IsAcceptedEntity (record { row = row.Null; attrs = blank_attributes; tail = token.Empty ∷ [] })
tail_of_null a = (let none : 1 ≡ 0 = ap (length {A = Token}) a.tail_of_row in omega (arith, none))

attributes_of_null : ¬ IsAcceptedEntity (record { row = row.Null; attrs = replicate 96 32; tail = [] })
attributes_of_null a = (let blank : replicate 96 32 ≡ blank_attributes = a.blank_where_null refl in let same : 32 ≡ 48 = ap (λ (bytes : List ℕ). get_or bytes 40 0) blank in omega (arith, same))

-- an unread entity of a type and form that are read, one of type 0, one with a blank after its record
unread_sphere : ¬ IsAcceptedEntity (plain (row.Opaque 158 0 0 []))
unfolding is_read
unread_sphere a = (let unread = a.kept_where_unread 158 0 0 [] refl in let same : true ≡ false = unread.not_read in cc)

unread_type_0 : ¬ IsAcceptedEntity (plain (row.Opaque 0 0 0 []))
unread_type_0 a = (let unread = a.kept_where_unread 0 0 0 [] refl in omega (arith, unread.kind_from))

unread_blank_after : ¬ IsAcceptedEntity (plain (row.Opaque 110 0 0 (49 ∷ 32 ∷ [])))
unread_blank_after a = (let unread = a.kept_where_unread 110 0 0 (49 ∷ 32 ∷ []) refl in let fewer : 1 ≡ 2 = ap (length {A = ℕ}) unread.no_blanks_after in omega (arith, fewer))
