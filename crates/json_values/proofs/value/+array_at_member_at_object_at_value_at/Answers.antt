use Rattle.json_values.proofs.Values.{arraying, membering, objecting, valuing}
use Rattle.json_values.proofs.value.+array_at_member_at_object_at_value_at.Goals as goal

pub array_at-returns-in-Some : goal.array_at-returns-in-Some
array_at-returns-in-Some c = search (arraying, membering, objecting, valuing)

pub array_at-loop-place-init : goal.array_at-loop-place-init
array_at-loop-place-init t c = search arraying

pub array_at-returns-in_err-next : goal.array_at-returns-in_err-next
array_at-returns-in_err-next t c = search (arraying, membering, objecting, valuing, c.in_err-next.was)

pub array_at-returns-in_default-structural_at : goal.array_at-returns-in_default-structural_at
array_at-returns-in_default-structural_at t c = search (arraying, c.in_ok-next.was)

pub array_at-loop-place-smaller : goal.array_at-loop-place-smaller
array_at-loop-place-smaller t c = search (arraying, c.in_ok-next.was)

pub array_at-loop-place-preserved : goal.array_at-loop-place-preserved
array_at-loop-place-preserved t c = search arraying

pub array_at-returns : goal.array_at-returns
array_at-returns t c = search arraying

pub member_at-returns-then-s-at : goal.member_at-returns-then-s-at
member_at-returns-then-s-at t c = search membering

pub member_at-returns-then-s-at-ne34 : goal.member_at-returns-then-s-at-ne34
member_at-returns-then-s-at-ne34 t c = search membering

pub member_at-returns-in_err-named : goal.member_at-returns-in_err-named
member_at-returns-in_err-named c = search (arraying, membering, objecting, valuing)

pub member_at-returns-in_err-value : goal.member_at-returns-in_err-value
member_at-returns-in_err-value c = search (arraying, membering, objecting, valuing)

pub member_at-returns-in_err-next : goal.member_at-returns-in_err-next
member_at-returns-in_err-next c = search (arraying, membering, objecting, valuing)

pub member_at-returns : goal.member_at-returns
member_at-returns t c = search membering

pub object_at-returns-in-Some : goal.object_at-returns-in-Some
object_at-returns-in-Some c = search (arraying, membering, objecting, valuing)

pub object_at-loop-place-init : goal.object_at-loop-place-init
object_at-loop-place-init t c = search objecting

pub object_at-returns-in_err-next : goal.object_at-returns-in_err-next
object_at-returns-in_err-next t c = search (arraying, membering, objecting, valuing, c.in_err-next.was)

pub object_at-returns-in_default-structural_at : goal.object_at-returns-in_default-structural_at
object_at-returns-in_default-structural_at t c = search (objecting, c.in_ok-next.was)

pub object_at-loop-place-smaller : goal.object_at-loop-place-smaller
object_at-loop-place-smaller t c = search (objecting, c.in_ok-next.was)

pub object_at-loop-place-preserved : goal.object_at-loop-place-preserved
object_at-loop-place-preserved t c = search objecting

pub object_at-returns : goal.object_at-returns
object_at-returns t c = search objecting

pub value_at-returns-then-depth-eq0 : goal.value_at-returns-then-depth-eq0
value_at-returns-then-depth-eq0 t c = search valuing

pub value_at-returns-then-s-at : goal.value_at-returns-then-s-at
value_at-returns-then-s-at t c = search valuing

pub value_at-returns-then-s-at-eq123 : goal.value_at-returns-then-s-at-eq123
value_at-returns-then-s-at-eq123 t c = search valuing

pub value_at-returns-then-s-at-eq91 : goal.value_at-returns-then-s-at-eq91
value_at-returns-then-s-at-eq91 t c = search valuing

pub value_at-returns : goal.value_at-returns
value_at-returns t c = search valuing
