use Rattle.descriptor.proofs.Typing.{stripping}
use Rattle.descriptor.proofs.types.without_brackets.Goals as goal

pub returns-then-s-end-ne91 : goal.returns-then-s-end-ne91
returns-then-s-end-ne91 c = search stripping

pub returns-then-s-end-ne93 : goal.returns-then-s-end-ne93
returns-then-s-end-ne93 c = search stripping

pub loop-end-preserved : goal.loop-end-preserved
loop-end-preserved c = search stripping

pub returns : goal.returns
returns c = search stripping
