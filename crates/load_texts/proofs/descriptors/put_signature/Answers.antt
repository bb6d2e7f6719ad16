-- `load_texts::descriptors::put_signature` meets its contract, by the laws of Signing.
use Rattle.load_texts.proofs.Signing.{lending, signing, signature_over}
use Rattle.std.specs.Prelude.{Err}
use mathlib.Core.Path.{◌∙◌, ap}
use Rattle.load_texts.proofs.descriptors.put_signature.Goals as goal

pub returns-in-Some : goal.returns-in-Some
returns-in-Some c = search lending

pub returns-in-Ok : goal.returns-in-Ok
returns-in-Ok c = search signing

pub returns-in-Err-NoRoom : goal.returns-in-Err-NoRoom
returns-in-Err-NoRoom c = signature_over _ c.args.at c.args.pool.now c.decode_at.new.room c.args.method c.decode_at.ensures.value c.decode_at.ensures.room_after (c.in-Err-NoRoom.is ∙ ap Err c.in-Err-NoRoom.field-0-is)
