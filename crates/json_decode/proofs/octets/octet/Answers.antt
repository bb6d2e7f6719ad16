-- `json_decode::octets::octet` meets its contract, by the laws of OctetLaws.
use Rattle.json_decode.proofs.OctetLaws.{octets}
use Rattle.json_decode.proofs.octets.octet.Goals as goal

pub returns-then-k-eq0 : goal.returns-then-k-eq0
returns-then-k-eq0 c = search octets

pub returns-then-code-lt2048 : goal.returns-then-code-lt2048
returns-then-code-lt2048 c = search octets

pub returns-then-k-eq0-2 : goal.returns-then-k-eq0-2
returns-then-k-eq0-2 c = search octets

pub returns-then-k-eq1 : goal.returns-then-k-eq1
returns-then-k-eq1 c = search octets

pub returns-then-code-lt65536 : goal.returns-then-code-lt65536
returns-then-code-lt65536 c = search octets

pub returns-then-k-eq0-3 : goal.returns-then-k-eq0-3
returns-then-k-eq0-3 c = search octets

pub returns-then-k-eq1-2 : goal.returns-then-k-eq1-2
returns-then-k-eq1-2 c = search octets

pub returns-then-k-eq2 : goal.returns-then-k-eq2
returns-then-k-eq2 c = search octets

pub returns : goal.returns
returns c = search octets
