-- `load_texts::descriptors::copy_signature` meets its contract, by the laws of Signing.
use Rattle.load_texts.proofs.Signing.{copying}
use Rattle.load_texts.proofs.descriptors.copy_signature.Goals as goal

pub returns-in_err-end : goal.returns-in_err-end
returns-in_err-end c = search copying

pub returns : goal.returns
returns c = search copying
