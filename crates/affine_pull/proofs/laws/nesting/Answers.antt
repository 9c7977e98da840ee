use Rattle.affine_pull.proofs.Nests.{pulled-nested, through-nested}
use Rattle.affine_pull.proofs.LawfulChains.{lawful-chain}
use Rattle.affine_pull.proofs.laws.nesting.Goals as goal

pub returns : goal.returns
returns c = record { matrix = pulled-nested; chain = through-nested; lawful = lawful-chain }
