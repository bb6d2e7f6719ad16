-- `json_decode::octets::has_octets` meets its contract, by the laws of OctetLaws and an invariant that says: the rest decides as the
-- whole does.
use Rattle.json_decode.proofs.OctetLaws.{Heading}
use Prim.Native.Nat.{◌-◌}
use Rattle.json_decode.proofs.octets.has_octets.Given as goal

abbrev pub invariant-loop-k : goal.invariant-loop-k
invariant-loop-k l = Heading l.text l.at l.code l.k
