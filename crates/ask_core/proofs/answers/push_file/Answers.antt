use Rattle.ask_core.proofs.Exports.{cut_file, cut_keeps}
use Rattle.ask_core.proofs.answers.push_file.Goals as goal

pub returns-clause-file : goal.returns-clause-file
returns-clause-file c =
    cut_file c.args.model.now c.args.out.now c.append_model.new.out c.drop_last.new.text c.in_ok-append_model.ensures.written c.drop_last.ensures

pub returns-clause-front : goal.returns-clause-front
returns-clause-front c =
    cut_keeps c.args.model.now c.args.out.now c.append_model.new.out c.drop_last.new.text c.in_ok-append_model.ensures.written c.drop_last.ensures
