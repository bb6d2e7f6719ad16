-- `load::entry::load_from` meets its contract, by the laws of Answering.
use Rattle.load.proofs.Answering.{answering}
use Rattle.load.proofs.entry.load_from.Goals as goal

pub overflow_cast-result : goal.overflow_cast-result
overflow_cast-result c = search answering

pub overflow_cast-result-in-Err : goal.overflow_cast-result-in-Err
overflow_cast-result-in-Err c = search answering
