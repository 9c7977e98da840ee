-- The lines of a script. solidd's own.
use Rattle.std.specs.Prelude.{ℕ, List, [], ◌∷◌, Bool, false, cond, not, ◌==◌, ◌&&◌, ◌||◌}
use Rattle.std.specs.List.{list_any, filter}
use Rattle.solid_base.specs.Spelling.{is_blank}

-- a byte in front of the first of these lines
abbrev pub put_in_front : ℕ → List (List ℕ) → List (List ℕ)
put_in_front b [] = (b ∷ []) ∷ []
put_in_front b (line ∷ lines) = (b ∷ line) ∷ lines

-- whether a line feed stands in front
abbrev pub begins_with_feed : List ℕ → Bool
begins_with_feed [] = false
begins_with_feed (b ∷ bs) = b == 10

-- solidd's own: the lines of the bytes. Each ends with LF, or with CR LF, which don't belong to it;
-- the bytes that no LF follows, where there are any, are a line too
unfoldable pub lines_of : List ℕ → List (List ℕ)
lines_of [] = []
lines_of (b ∷ bs) =
    cond (b == 10) ([] ∷ lines_of bs)
    (cond ((b == 13) && begins_with_feed bs) (lines_of bs) (put_in_front b (lines_of bs)))

-- solidd's own: a byte that says nothing where it stands alone: a blank, or the byte 26, which some
-- systems write at the end of a text
abbrev pub is_idle : ℕ → Bool
is_idle b = is_blank b || (b == 26)

-- solidd's own: a line that isn't skipped holds another byte
abbrev pub is_kept : List ℕ → Bool
is_kept line = list_any (λ b. not (is_idle b)) line

-- solidd's own: the lines that aren't skipped, in the order of the input
abbrev pub kept_lines : List ℕ → List (List ℕ)
kept_lines bytes = filter is_kept (lines_of bytes)

-- a line without the CR at its end, where one stands there
unfoldable pub without_return : List ℕ → List ℕ
without_return [] = []
without_return (b ∷ []) = cond (b == 13) [] (b ∷ [])
without_return (b ∷ c ∷ bs) = b ∷ without_return (c ∷ bs)
