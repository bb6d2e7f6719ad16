use Rattle.json_values.proofs.Values.{member_inside}
use Rattle.json_comment.proofs.Answers.{comment_no_members, reading_none, reading_cut, value_starts, reading_wrong, reading_ends, reading_on, reading}
use Rattle.ground.proofs.Answered.{none_on}
use Rattle.json_comment.proofs.answer.read_comment.Goals as goal

pub returns-then-s-at : goal.returns-then-s-at
returns-then-s-at c = search reading

pub returns-then-s-at-ne123 : goal.returns-then-s-at-ne123
returns-then-s-at-ne123 c = search reading

pub returns-in-Some : goal.returns-in-Some
returns-in-Some c = comment_no_members c.args.s.now c.skip_space-at.ensures c.if-s-at.false c.if-s-at-ne123.false c.skip_space-place.ensures c.structural_at.ensures c.in-Some.is c.ended.ensures

pub loop-place-init : goal.loop-place-init
loop-place-init c = search reading

pub returns-in_err-value : goal.returns-in_err-value
returns-in_err-value c = none_on c.from_residual.ensures (reading_none c.loop-place.invariant c.loop-place-test.true c.comment_member.ensures c.skip_space-at.ensures c.in_err-value.was)

pub stands_now-id-requires : goal.stands_now-id-requires
stands_now-id-requires c = value_starts c.loop-place.invariant c.loop-place-test.true c.comment_member.ensures c.in_ok-value.was

pub stands_now-signature-requires : goal.stands_now-signature-requires
stands_now-signature-requires c = value_starts c.loop-place.invariant c.loop-place-test.true c.comment_member.ensures c.in_ok-value.was

pub returns-in_default-structural_at-2 : goal.returns-in_default-structural_at-2
returns-in_default-structural_at-2 c = reading_wrong c.loop-place.invariant c.loop-place-test.true c.comment_member.ensures c.in_ok-value.was c.stands_now-id.ensures c.stands_now-signature.ensures _ c.structural_at-in-loop-place.ensures c.in_default-structural_at.is _ c.structural_at-in_default-structural_at.ensures c.skip_space-at.ensures c.in_default-structural_at-2.is

pub returns-in_default-structural_at : goal.returns-in_default-structural_at
returns-in_default-structural_at c = reading_ends c.loop-place.invariant c.loop-place-test.true c.comment_member.ensures c.in_ok-value.was c.stands_now-id.ensures c.stands_now-signature.ensures _ c.structural_at-in-loop-place.ensures c.in_default-structural_at.is _ c.structural_at-in_default-structural_at.ensures c.skip_space-at.ensures c.in-Some-structural_at-2.is c.ended-in_default-structural_at.ensures

pub loop-place-smaller : goal.loop-place-smaller
loop-place-smaller c = search (reading, c.in_ok-value.was)

pub loop-place-preserved : goal.loop-place-preserved
loop-place-preserved c = reading_on c.loop-place.invariant c.loop-place-test.true c.comment_member.ensures c.in_ok-value.was c.stands_now-id.ensures c.stands_now-signature.ensures _ c.structural_at-in-loop-place.ensures c.in-Some-structural_at.is

pub returns : goal.returns
returns c = reading_cut c.loop-place.invariant c.skip_space-at.ensures c.loop-place-test.false
