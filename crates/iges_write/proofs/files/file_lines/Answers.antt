use Rattle.std.proofs.Common.{arith}
use Rattle.iges_write.proofs.FileParts.{file_counted}
use Rattle.iges_write.proofs.files.file_lines.Goals as goal

pub overflow_cast-result-2 : goal.overflow_cast-result-2
overflow_cast-result-2 c =
    let (whole, few) = file_counted c.args.model.now c.in_ok-globals.globals c.requires.accepted c.in_ok-globals.ensures in
    omega (arith, whole, few, c.len.ensures, c.len-2.ensures, c.len-3.ensures, c.requires.records)

pub overflow_add-result : goal.overflow_add-result
overflow_add-result c =
    let (whole, few) = file_counted c.args.model.now c.in_ok-globals.globals c.requires.accepted c.in_ok-globals.ensures in
    omega (arith, whole, few, c.len.ensures, c.len-2.ensures, c.len-3.ensures, c.requires.records)

pub overflow_add-result-2 : goal.overflow_add-result-2
overflow_add-result-2 c =
    let (whole, few) = file_counted c.args.model.now c.in_ok-globals.globals c.requires.accepted c.in_ok-globals.ensures in
    omega (arith, whole, few, c.len.ensures, c.len-2.ensures, c.len-3.ensures, c.requires.records)

pub overflow_add-result-3 : goal.overflow_add-result-3
overflow_add-result-3 c =
    let (whole, few) = file_counted c.args.model.now c.in_ok-globals.globals c.requires.accepted c.in_ok-globals.ensures in
    omega (arith, whole, few, c.len.ensures, c.len-2.ensures, c.len-3.ensures, c.requires.records)

pub overflow_add-result-4 : goal.overflow_add-result-4
overflow_add-result-4 c =
    let (whole, few) = file_counted c.args.model.now c.in_ok-globals.globals c.requires.accepted c.in_ok-globals.ensures in
    omega (arith, whole, few, c.len.ensures, c.len-2.ensures, c.len-3.ensures, c.requires.records)

pub returns : goal.returns
returns c =
    let (whole, few) = file_counted c.args.model.now c.in_ok-globals.globals c.requires.accepted c.in_ok-globals.ensures in
    omega (arith, whole, few, c.len.ensures, c.len-2.ensures, c.len-3.ensures, c.requires.records)
