-- The generated input is read as its model and its script, and is no longer than an input may be.
use Rattle.std.proofs.Common.{◌≡◌, ℕ, zero, suc, ◌+◌, ◌*◌, ◌/◌, ◌%◌, ◌==◌, ◌^◌, ◌<◌, ◌≤◌, Bool, true, false, cond, List, [], ◌∷◌, ◌++◌, length, drop, codes, decimal, pos, refl, ap, subst, ◌∙◌, arith, length-append}
use Rattle.std.specs.List.{flat_map, range_with_len}
use Rattle.solid_base.specs.declared.entities.Model.{Model}
use Rattle.solid_base.specs.declared.geometry.Vec3.{Vec3}
use Rattle.script_lines.specs.declared.commands.ScriptLine.{ScriptLine}
use Rattle.script_lines.specs.Scripts.{IsScript}
use Rattle.iges_parameters.specs.Accepted.{global_text}
use Rattle.iges_write.specs.CanonicalFile.{canonical_text, directory_lines}
use Rattle.iges_write.proofs.FileParts.{entries_count, few_parameters}
use Rattle.iges_write.proofs.LinesIn.{length-lines_in}
use Rattle.iges_file.specs.Files.{Reads}
use Rattle.iges_file.proofs.OneOutcome.{reads_once}
use Rattle.iges_file.proofs.WrittenFiles.{read_before, written_size}
use Rattle.solid_top.specs.LoadInput.{number_at, centre, beside, units_text, coordinates_text, point_line, replace_line, smaller_lines, lines_at, load_rows, load_model, load_script, load_bytes}
use Rattle.solid_top.specs.Replay.{IsReplay}
use Rattle.solid_top.proofs.LoadAccepted.{decimal_short, real_short, global_few, rows_count, load_accepted}

-- ---- how long the script is

coordinates_short : (between x y z : ℕ) → x < 10 ^ 20 → y < 10 ^ 20 → z < 10 ^ 20 → length (coordinates_text between (record { x = pos x; y = pos y; z = pos z })) ≤ 194
unfolding coordinates_text units_text
coordinates_short between x y z hx hy hz =
    let a = real_short x hx in
    let b = real_short y hy in
    let c = real_short z hz in
    let last = length-append (units_text (pos y)) (between ∷ units_text (pos z)) in
    let whole = length-append (units_text (pos x)) (between ∷ (units_text (pos y) ++ between ∷ units_text (pos z))) in
    omega (arith, a, b, c, last, whole)

point_short : (number x y z : ℕ) → number < 10 ^ 20 → x < 10 ^ 20 → y < 10 ^ 20 → z < 10 ^ 20 → length (point_line number (record { x = pos x; y = pos y; z = pos z })) ≤ 225
unfolding point_line
point_short number x y z hn hx hy hz =
    let at : Vec3 = record { x = pos x; y = pos y; z = pos z } in
    let a = decimal_short number hn in
    let b = coordinates_short 32 x y z hx hy hz in
    let last = length-append (coordinates_text 32 at) (codes "\n") in
    let whole = length-append (decimal number) (codes " " ++ (coordinates_text 32 at ++ codes "\n")) in
    omega (arith, a, b, last, whole)

replace_short : (place : ℕ) → place < 1000 → length (replace_line place) ≤ 244
unfolding replace_line centre
replace_short place lt =
    let a = decimal_short (number_at place) (omega (arith, lt)) in
    let b = coordinates_short 44 (3 * (place % 10) * 10 ^ 12) (3 * (place / 10 % 10) * 10 ^ 12) (3 * (place / 100) * 10 ^ 12) (omega arith) (omega arith) (omega (arith, lt)) in
    let last = length-append (coordinates_text 44 (centre place)) (codes ";\n") in
    let whole = length-append (decimal (number_at place)) (codes " 158 0 0 158,0.5," ++ (coordinates_text 44 (centre place) ++ codes ";\n")) in
    omega (arith, a, b, last, whole)

centre_short : (n place : ℕ) → n ≤ 1000 → place < 1000 → length (point_line (number_at n) (centre place)) ≤ 225
unfolding centre
centre_short n place few lt =
    point_short (number_at n) (3 * (place % 10) * 10 ^ 12) (3 * (place / 10 % 10) * 10 ^ 12) (3 * (place / 100) * 10 ^ 12) (omega (arith, few)) (omega arith) (omega arith) (omega (arith, lt))

beside_short : (n place : ℕ) → n ≤ 1000 → place < 1000 → length (point_line (number_at n) (beside (centre place))) ≤ 225
unfolding beside centre
beside_short n place few lt =
    point_short (number_at n) (3 * (place % 10) * 10 ^ 12 + 75 * 10 ^ 10) (3 * (place / 10 % 10) * 10 ^ 12) (3 * (place / 100) * 10 ^ 12) (omega (arith, few)) (omega arith) (omega arith) (omega (arith, lt))

smaller_short : (n place : ℕ) → n ≤ 1000 → place < 1000 → length (smaller_lines n place) ≤ 479
unfolding smaller_lines
smaller_short n place few lt =
    let a = replace_short place lt in
    let b = beside_short n place few lt in
    let whole = length-append (replace_line place) (codes "@2 commit\n" ++ point_line (number_at n) (beside (centre place))) in
    omega (arith, a, b, whole)

lines_short : (n place : ℕ) → n ≤ 1000 → place < 1000 → length (lines_at n place) ≤ 1000
unfolding lines_at
lines_short n place few lt =
    let a = centre_short n place few lt in
    let b = smaller_short n place few lt in
    let chosen : (test : Bool) → length (cond test (smaller_lines n place) []) ≤ 479 = chosen_short b in
    let c = chosen (place % 10 == 0) in
    let whole = length-append (point_line (number_at n) (centre place)) (cond (place % 10 == 0) (smaller_lines n place) []) in
    omega (arith, a, c, whole) where
      chosen_short : length (smaller_lines n place) ≤ 479 → (test : Bool) → length (cond test (smaller_lines n place) []) ≤ 479
      chosen_short h true = h
      chosen_short h false = omega arith

texts_short : (f : ℕ → List ℕ) (from n : ℕ) → ((place : ℕ) → place < from + n → length (f place) ≤ 1000) → length (flat_map f (range_with_len from n)) ≤ 1000 * n
texts_short f from zero h = omega arith
texts_short f from (suc n) h =
    let first = h from (omega arith) in
    let more = texts_short f (from + 1) n (λ place lt. h place (omega (arith, lt))) in
    let whole = length-append (f from) (flat_map f (range_with_len (from + 1) n)) in
    omega (arith, first, more, whole)

script_short : (n : ℕ) → n ≤ 1000 → length (load_script n) ≤ 1000 * n
unfolding load_script
script_short n few = texts_short (lines_at n) 0 n (λ place lt. lines_short n place few (omega (arith, lt, few)))

-- ---- how long the input is

directory_count : (n : ℕ) → length (directory_lines (load_model n)) ≡ 2 * (n + 1)
unfolding load_model
directory_count n = entries_count 44 59 [] (load_rows n) ∙ ap (λ (k : ℕ). 2 * k) (rows_count n)

start_count : (n : ℕ) → length (load_model n).start ≡ 1
unfolding load_model
start_count n = refl

pub bytes_short : (n : ℕ) → 1 ≤ n → n ≤ 1000 → length (load_bytes n) ≤ 2 ^ 25
unfolding load_bytes
bytes_short n some few =
    let accepted = load_accepted n some few in
    let model = load_model n in
    let file = written_size model accepted in
    let start = start_count n in
    let global = length-lines_in 72 (global_text model) in
    let short = global_few n in
    let directory = directory_count n in
    let params = few_parameters model accepted in
    let script = script_short n few in
    let whole = length-append (canonical_text model) (load_script n) in
    omega (arith, few, file, start, global, short, directory, params, script, whole)

-- ---- what the input is read as

pub load_reads : (n : ℕ) → 1 ≤ n → n ≤ 1000 → Reads (load_bytes n) (load_model n) (length (canonical_text (load_model n)))
unfolding load_bytes
load_reads n some few = read_before (load_model n) (load_script n) (load_accepted n some few)

-- bytes that are the generated input are read as its model, and end behind the file
pub record IsReadBack (n : ℕ) (bytes : List ℕ) (model : Model) (end : ℕ) : Type 0 where
  pub model_is : model ≡ load_model n
  pub within : end ≤ length bytes
  pub replay : (lines : List ScriptLine) → IsScript (drop end bytes) lines → IsReplay (load_bytes n) (load_model n) lines

pub read_back : (n : ℕ) (bytes : List ℕ) (model : Model) (end : ℕ) → 1 ≤ n → n ≤ 1000 → bytes ≡ load_bytes n → Reads bytes model end → IsReadBack n bytes model end
unfolding load_bytes
read_back n bytes model end some few is reads =
    let here : Reads (load_bytes n) model end = subst (λ (text : List ℕ). Reads text model end) is reads in
    let (same, place) = reads_once (load_bytes n) model (load_model n) end (length (canonical_text (load_model n))) here (load_reads n some few) in
    let size = ap (length {A = ℕ}) is in
    let whole = length-append (canonical_text (load_model n)) (load_script n) in
    record {
      model_is = same;
      within = omega (arith, place, size, whole);
      replay = λ lines script. record {
        end = end;
        reads = subst (λ (m : Model). Reads (load_bytes n) m end) same here;
        script = subst (λ (text : List ℕ). IsScript (drop end text) lines) is script;
      };
    }
