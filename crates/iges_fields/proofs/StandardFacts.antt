-- Worked fields and lines, computed by the definitions. The delimiters are the comma, 44, and the semicolon, 59.
use Rattle.std.proofs.Common.{◌≡◌, [], ◌∷◌, codes, true, false, refl, Ok, Err}
use Rattle.solid_base.specs.declared.entities.Token.TheVariants as token
use Rattle.iges_fields.specs.declared.kinds.FieldKind.TheVariants as kind
use Rattle.iges_fields.specs.declared.faults.FieldFault.TheVariants as fault
use Rattle.iges_fields.specs.Reading.{field_at}
use Rattle.iges_fields.specs.Layout.{laid}

whole : field_at 44 59 (codes " 158 ,1.0;") ≡ Ok (record { kind = kind.Whole; text = codes "158"; rest = codes "1.0;"; ended = false })
unfolding field_at
whole = refl

real_with_small_letter : field_at 44 59 (codes "-.5d+07;x") ≡ Ok (record { kind = kind.Real; text = codes "-.5d+07"; rest = codes "x"; ended = true })
unfolding field_at
real_with_small_letter = refl

delimiters_inside_a_text : field_at 44 59 (codes "3H;,; ,4") ≡ Ok (record { kind = kind.Text; text = codes ";,;"; rest = codes "4"; ended = false })
unfolding field_at
delimiters_inside_a_text = refl

text_of_no_bytes : field_at 44 59 (codes "0H;") ≡ Ok (record { kind = kind.Text; text = []; rest = []; ended = true })
unfolding field_at
text_of_no_bytes = refl

tab_alone : field_at 44 59 (9 ∷ codes " ;") ≡ Ok (record { kind = kind.Empty; text = []; rest = []; ended = true })
unfolding field_at
tab_alone = refl

count_at_the_end : field_at 44 59 (codes "3Habc") ≡ Err fault.NoEnd
unfolding field_at
count_at_the_end = refl

count_past_the_end : field_at 44 59 (codes "4Habc") ≡ Err fault.BadText
unfolding field_at
count_past_the_end = refl

bytes_after_a_text : field_at 44 59 (codes "2Habc,") ≡ Err fault.BadToken
unfolding field_at
bytes_after_a_text = refl

no_field_and_no_end : field_at 44 59 (codes "1.2.3") ≡ Err fault.BadToken
unfolding field_at
no_field_and_no_end = refl

nothing_at_all : field_at 44 59 [] ≡ Err fault.NoEnd
unfolding field_at
nothing_at_all = refl

-- in lines of eight columns: the second token fits exactly, the fourth is longer than a line, and the last does not fit after it
lines_of_eight : laid 8 44 59 0 (token.Whole (codes "158") ∷ token.Whole (codes "123") ∷ token.Empty ∷ token.Real (codes "1.234567") ∷ token.Whole (codes "1234567") ∷ [])
    ≡ codes "158,123,,       1.234567,       1234567;"
unfolding laid
lines_of_eight = refl
