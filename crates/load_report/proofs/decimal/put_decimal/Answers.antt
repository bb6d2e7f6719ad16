use Rattle.load_report.proofs.Spelling.{spelling}
use Rattle.load_report.proofs.decimal.put_decimal.Goals as goal

pub loop-rest-preserved : goal.loop-rest-preserved
loop-rest-preserved c = search spelling

pub returns : goal.returns
returns c = search spelling
