-- `text_utf8::check::bad_at` meets its contract, by the laws of Threes.
use Rattle.text_utf8.proofs.Threes.{bad_places}
use Rattle.text_utf8.proofs.check.bad_at.Goals as goal

pub returns-in-End : goal.returns-in-End
returns-in-End c = search bad_places

pub returns-in-Good : goal.returns-in-Good
returns-in-Good c = search bad_places

pub returns-in-Bad : goal.returns-in-Bad
returns-in-Bad c = search bad_places
