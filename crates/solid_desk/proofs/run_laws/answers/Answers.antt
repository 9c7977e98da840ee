use Rattle.solid_desk.proofs.RepliesMean.{question_means, held_question_means}
use Rattle.solid_desk.proofs.run_laws.answers.Goals as goal

pub returns-clause-question : goal.returns-clause-question
returns-clause-question c opening sessions log transcripts session place commands replies q live version body legal stands prints line one =
    question_means opening sessions log transcripts session place commands replies q live version body legal stands prints line one

pub returns-clause-held : goal.returns-clause-held
returns-clause-held c opening sessions log transcripts session place commands replies q version body legal stands prints line one =
    held_question_means opening sessions log transcripts session place commands replies q version body legal stands prints line one
