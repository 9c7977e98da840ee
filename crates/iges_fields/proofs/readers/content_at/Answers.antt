use Rattle.std.proofs.Common.{rules, ◌-◌, ◌^◌, ◌∙◌, sym, ◌<◌, length, take, drop}
use Rattle.std.proofs.lemmas.List.{take_rest}
use Rattle.iges_fields.proofs.Counts.{counted_gives}
use Rattle.iges_fields.proofs.readers.content_at.Goals as goal

pub returns-then-is_counted : goal.returns-then-is_counted
returns-then-is_counted c =
    let after = c.split_at.result.1.now in
    let small : length (take (length after - 1) (drop 1 after)) < 2 ^ 64 - 1 = search rules in
    counted_gives c.args.comma c.args.semi c.args.bytes.now c.split_at.result.0.now after _ c.digit_count-count.result c.number_up_to-size.result c.text_at.result
    c.digit_count-count.ensures.value c.split_at.ensures.front c.split_at.ensures.back (sym c.is_counted.ensures.value ∙ c.if-is_counted.true) c.number_up_to-size.ensures (take_rest after 1) small c.text_at.ensures
