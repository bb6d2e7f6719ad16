-- `json_decode::octets::put_octets` meets its contract, by the laws of OctetLaws and an invariant that says: the rest decides as the
-- whole does.
use Rattle.json_decode.proofs.OctetLaws.{Putting}
use Prim.Native.Nat.{◌-◌}
use Rattle.json_decode.proofs.octets.put_octets.Given as goal

abbrev pub invariant-loop-k : goal.invariant-loop-k
invariant-loop-k l = Putting l.initial.room l.at l.code l.room l.k
