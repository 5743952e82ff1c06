use Rattle.gcs_http_out.specs.Head.{head_text}
use Rattle.gcs_http_out.specs.Fixed.{fixed_text}
use Rattle.gcs_http_out.proofs.OnLiterals.{decimals_on_literals}
use Rattle.gcs_http_out.proofs.constants.fixed.Goals as goal

pub returns-in-Stays-false : goal.returns-in-Stays-false
unfolding decimals_on_literals fixed_text head_text
returns-in-Stays-false c = rw (c.in-HeadTooLong.is, c.in-Stays-false.is-0, c.in-Stays-false.is-1) c.as_bytes-in-Stays-false.ensures.value

pub returns-in-KeepAlive-true : goal.returns-in-KeepAlive-true
unfolding decimals_on_literals fixed_text head_text
returns-in-KeepAlive-true c = rw (c.in-HeadTooLong.is, c.in-KeepAlive-true.is-0, c.in-KeepAlive-true.is-1) c.as_bytes-in-KeepAlive-true.ensures.value

pub returns-in-KeepAlive-false : goal.returns-in-KeepAlive-false
unfolding decimals_on_literals fixed_text head_text
returns-in-KeepAlive-false c = rw (c.in-HeadTooLong.is, c.in-KeepAlive-false.is-0, c.in-KeepAlive-false.is-1) c.as_bytes-in-KeepAlive-false.ensures.value

pub returns-in-Closes-true : goal.returns-in-Closes-true
unfolding decimals_on_literals fixed_text head_text
returns-in-Closes-true c = rw (c.in-HeadTooLong.is, c.in-Closes-true.is-0, c.in-Closes-true.is-1) c.as_bytes-in-Closes-true.ensures.value

pub returns-in-Closes-false : goal.returns-in-Closes-false
unfolding decimals_on_literals fixed_text head_text
returns-in-Closes-false c = rw (c.in-HeadTooLong.is, c.in-Closes-false.is-0, c.in-Closes-false.is-1) c.as_bytes-in-Closes-false.ensures.value

pub returns-in-Stays-false-2 : goal.returns-in-Stays-false-2
unfolding decimals_on_literals fixed_text head_text
returns-in-Stays-false-2 c = rw (c.in-TooManyFields.is, c.in-Stays-false-2.is-0, c.in-Stays-false-2.is-1) c.as_bytes-in-Stays-false-2.ensures.value

pub returns-in-KeepAlive-true-2 : goal.returns-in-KeepAlive-true-2
unfolding decimals_on_literals fixed_text head_text
returns-in-KeepAlive-true-2 c = rw (c.in-TooManyFields.is, c.in-KeepAlive-true-2.is-0, c.in-KeepAlive-true-2.is-1) c.as_bytes-in-KeepAlive-true-2.ensures.value

pub returns-in-KeepAlive-false-2 : goal.returns-in-KeepAlive-false-2
unfolding decimals_on_literals fixed_text head_text
returns-in-KeepAlive-false-2 c = rw (c.in-TooManyFields.is, c.in-KeepAlive-false-2.is-0, c.in-KeepAlive-false-2.is-1) c.as_bytes-in-KeepAlive-false-2.ensures.value

pub returns-in-Closes-true-2 : goal.returns-in-Closes-true-2
unfolding decimals_on_literals fixed_text head_text
returns-in-Closes-true-2 c = rw (c.in-TooManyFields.is, c.in-Closes-true-2.is-0, c.in-Closes-true-2.is-1) c.as_bytes-in-Closes-true-2.ensures.value

pub returns-in-Closes-false-2 : goal.returns-in-Closes-false-2
unfolding decimals_on_literals fixed_text head_text
returns-in-Closes-false-2 c = rw (c.in-TooManyFields.is, c.in-Closes-false-2.is-0, c.in-Closes-false-2.is-1) c.as_bytes-in-Closes-false-2.ensures.value

pub returns-in-Stays-false-3 : goal.returns-in-Stays-false-3
unfolding decimals_on_literals fixed_text head_text
returns-in-Stays-false-3 c = rw (c.in-BadHead.is, c.in-Stays-false-3.is-0, c.in-Stays-false-3.is-1) c.as_bytes-in-Stays-false-3.ensures.value

pub returns-in-KeepAlive-true-3 : goal.returns-in-KeepAlive-true-3
unfolding decimals_on_literals fixed_text head_text
returns-in-KeepAlive-true-3 c = rw (c.in-BadHead.is, c.in-KeepAlive-true-3.is-0, c.in-KeepAlive-true-3.is-1) c.as_bytes-in-KeepAlive-true-3.ensures.value

pub returns-in-KeepAlive-false-3 : goal.returns-in-KeepAlive-false-3
unfolding decimals_on_literals fixed_text head_text
returns-in-KeepAlive-false-3 c = rw (c.in-BadHead.is, c.in-KeepAlive-false-3.is-0, c.in-KeepAlive-false-3.is-1) c.as_bytes-in-KeepAlive-false-3.ensures.value

pub returns-in-Closes-true-3 : goal.returns-in-Closes-true-3
unfolding decimals_on_literals fixed_text head_text
returns-in-Closes-true-3 c = rw (c.in-BadHead.is, c.in-Closes-true-3.is-0, c.in-Closes-true-3.is-1) c.as_bytes-in-Closes-true-3.ensures.value

pub returns-in-Closes-false-3 : goal.returns-in-Closes-false-3
unfolding decimals_on_literals fixed_text head_text
returns-in-Closes-false-3 c = rw (c.in-BadHead.is, c.in-Closes-false-3.is-0, c.in-Closes-false-3.is-1) c.as_bytes-in-Closes-false-3.ensures.value

pub returns-in-Stays-false-4 : goal.returns-in-Stays-false-4
unfolding decimals_on_literals fixed_text head_text
returns-in-Stays-false-4 c = rw (c.in-BadCoding.is, c.in-Stays-false-4.is-0, c.in-Stays-false-4.is-1) c.as_bytes-in-Stays-false-4.ensures.value

pub returns-in-KeepAlive-true-4 : goal.returns-in-KeepAlive-true-4
unfolding decimals_on_literals fixed_text head_text
returns-in-KeepAlive-true-4 c = rw (c.in-BadCoding.is, c.in-KeepAlive-true-4.is-0, c.in-KeepAlive-true-4.is-1) c.as_bytes-in-KeepAlive-true-4.ensures.value

pub returns-in-KeepAlive-false-4 : goal.returns-in-KeepAlive-false-4
unfolding decimals_on_literals fixed_text head_text
returns-in-KeepAlive-false-4 c = rw (c.in-BadCoding.is, c.in-KeepAlive-false-4.is-0, c.in-KeepAlive-false-4.is-1) c.as_bytes-in-KeepAlive-false-4.ensures.value

pub returns-in-Closes-true-4 : goal.returns-in-Closes-true-4
unfolding decimals_on_literals fixed_text head_text
returns-in-Closes-true-4 c = rw (c.in-BadCoding.is, c.in-Closes-true-4.is-0, c.in-Closes-true-4.is-1) c.as_bytes-in-Closes-true-4.ensures.value

pub returns-in-Closes-false-4 : goal.returns-in-Closes-false-4
unfolding decimals_on_literals fixed_text head_text
returns-in-Closes-false-4 c = rw (c.in-BadCoding.is, c.in-Closes-false-4.is-0, c.in-Closes-false-4.is-1) c.as_bytes-in-Closes-false-4.ensures.value

pub returns-in-Stays-false-5 : goal.returns-in-Stays-false-5
unfolding decimals_on_literals fixed_text head_text
returns-in-Stays-false-5 c = rw (c.in-BothLengths.is, c.in-Stays-false-5.is-0, c.in-Stays-false-5.is-1) c.as_bytes-in-Stays-false-5.ensures.value

pub returns-in-KeepAlive-true-5 : goal.returns-in-KeepAlive-true-5
unfolding decimals_on_literals fixed_text head_text
returns-in-KeepAlive-true-5 c = rw (c.in-BothLengths.is, c.in-KeepAlive-true-5.is-0, c.in-KeepAlive-true-5.is-1) c.as_bytes-in-KeepAlive-true-5.ensures.value

pub returns-in-KeepAlive-false-5 : goal.returns-in-KeepAlive-false-5
unfolding decimals_on_literals fixed_text head_text
returns-in-KeepAlive-false-5 c = rw (c.in-BothLengths.is, c.in-KeepAlive-false-5.is-0, c.in-KeepAlive-false-5.is-1) c.as_bytes-in-KeepAlive-false-5.ensures.value

pub returns-in-Closes-true-5 : goal.returns-in-Closes-true-5
unfolding decimals_on_literals fixed_text head_text
returns-in-Closes-true-5 c = rw (c.in-BothLengths.is, c.in-Closes-true-5.is-0, c.in-Closes-true-5.is-1) c.as_bytes-in-Closes-true-5.ensures.value

pub returns-in-Closes-false-5 : goal.returns-in-Closes-false-5
unfolding decimals_on_literals fixed_text head_text
returns-in-Closes-false-5 c = rw (c.in-BothLengths.is, c.in-Closes-false-5.is-0, c.in-Closes-false-5.is-1) c.as_bytes-in-Closes-false-5.ensures.value

pub returns-in-Stays-false-6 : goal.returns-in-Stays-false-6
unfolding decimals_on_literals fixed_text head_text
returns-in-Stays-false-6 c = rw (c.in-BadLength.is, c.in-Stays-false-6.is-0, c.in-Stays-false-6.is-1) c.as_bytes-in-Stays-false-6.ensures.value

pub returns-in-KeepAlive-true-6 : goal.returns-in-KeepAlive-true-6
unfolding decimals_on_literals fixed_text head_text
returns-in-KeepAlive-true-6 c = rw (c.in-BadLength.is, c.in-KeepAlive-true-6.is-0, c.in-KeepAlive-true-6.is-1) c.as_bytes-in-KeepAlive-true-6.ensures.value

pub returns-in-KeepAlive-false-6 : goal.returns-in-KeepAlive-false-6
unfolding decimals_on_literals fixed_text head_text
returns-in-KeepAlive-false-6 c = rw (c.in-BadLength.is, c.in-KeepAlive-false-6.is-0, c.in-KeepAlive-false-6.is-1) c.as_bytes-in-KeepAlive-false-6.ensures.value

pub returns-in-Closes-true-6 : goal.returns-in-Closes-true-6
unfolding decimals_on_literals fixed_text head_text
returns-in-Closes-true-6 c = rw (c.in-BadLength.is, c.in-Closes-true-6.is-0, c.in-Closes-true-6.is-1) c.as_bytes-in-Closes-true-6.ensures.value

pub returns-in-Closes-false-6 : goal.returns-in-Closes-false-6
unfolding decimals_on_literals fixed_text head_text
returns-in-Closes-false-6 c = rw (c.in-BadLength.is, c.in-Closes-false-6.is-0, c.in-Closes-false-6.is-1) c.as_bytes-in-Closes-false-6.ensures.value

pub returns-in-Stays-false-7 : goal.returns-in-Stays-false-7
unfolding decimals_on_literals fixed_text head_text
returns-in-Stays-false-7 c = rw (c.in-BodyTooLong.is, c.in-Stays-false-7.is-0, c.in-Stays-false-7.is-1) c.as_bytes-in-Stays-false-7.ensures.value

pub returns-in-KeepAlive-true-7 : goal.returns-in-KeepAlive-true-7
unfolding decimals_on_literals fixed_text head_text
returns-in-KeepAlive-true-7 c = rw (c.in-BodyTooLong.is, c.in-KeepAlive-true-7.is-0, c.in-KeepAlive-true-7.is-1) c.as_bytes-in-KeepAlive-true-7.ensures.value

pub returns-in-KeepAlive-false-7 : goal.returns-in-KeepAlive-false-7
unfolding decimals_on_literals fixed_text head_text
returns-in-KeepAlive-false-7 c = rw (c.in-BodyTooLong.is, c.in-KeepAlive-false-7.is-0, c.in-KeepAlive-false-7.is-1) c.as_bytes-in-KeepAlive-false-7.ensures.value

pub returns-in-Closes-true-7 : goal.returns-in-Closes-true-7
unfolding decimals_on_literals fixed_text head_text
returns-in-Closes-true-7 c = rw (c.in-BodyTooLong.is, c.in-Closes-true-7.is-0, c.in-Closes-true-7.is-1) c.as_bytes-in-Closes-true-7.ensures.value

pub returns-in-Closes-false-7 : goal.returns-in-Closes-false-7
unfolding decimals_on_literals fixed_text head_text
returns-in-Closes-false-7 c = rw (c.in-BodyTooLong.is, c.in-Closes-false-7.is-0, c.in-Closes-false-7.is-1) c.as_bytes-in-Closes-false-7.ensures.value

pub returns-in-Stays-false-8 : goal.returns-in-Stays-false-8
unfolding decimals_on_literals fixed_text head_text
returns-in-Stays-false-8 c = rw (c.in-BadChunk.is, c.in-Stays-false-8.is-0, c.in-Stays-false-8.is-1) c.as_bytes-in-Stays-false-8.ensures.value

pub returns-in-KeepAlive-true-8 : goal.returns-in-KeepAlive-true-8
unfolding decimals_on_literals fixed_text head_text
returns-in-KeepAlive-true-8 c = rw (c.in-BadChunk.is, c.in-KeepAlive-true-8.is-0, c.in-KeepAlive-true-8.is-1) c.as_bytes-in-KeepAlive-true-8.ensures.value

pub returns-in-KeepAlive-false-8 : goal.returns-in-KeepAlive-false-8
unfolding decimals_on_literals fixed_text head_text
returns-in-KeepAlive-false-8 c = rw (c.in-BadChunk.is, c.in-KeepAlive-false-8.is-0, c.in-KeepAlive-false-8.is-1) c.as_bytes-in-KeepAlive-false-8.ensures.value

pub returns-in-Closes-true-8 : goal.returns-in-Closes-true-8
unfolding decimals_on_literals fixed_text head_text
returns-in-Closes-true-8 c = rw (c.in-BadChunk.is, c.in-Closes-true-8.is-0, c.in-Closes-true-8.is-1) c.as_bytes-in-Closes-true-8.ensures.value

pub returns-in-Closes-false-8 : goal.returns-in-Closes-false-8
unfolding decimals_on_literals fixed_text head_text
returns-in-Closes-false-8 c = rw (c.in-BadChunk.is, c.in-Closes-false-8.is-0, c.in-Closes-false-8.is-1) c.as_bytes-in-Closes-false-8.ensures.value

pub returns-in-Stays-false-9 : goal.returns-in-Stays-false-9
unfolding decimals_on_literals fixed_text head_text
returns-in-Stays-false-9 c = rw (c.in-WantOfMemory.is, c.in-Stays-false-9.is-0, c.in-Stays-false-9.is-1) c.as_bytes-in-Stays-false-9.ensures.value

pub returns-in-KeepAlive-true-9 : goal.returns-in-KeepAlive-true-9
unfolding decimals_on_literals fixed_text head_text
returns-in-KeepAlive-true-9 c = rw (c.in-WantOfMemory.is, c.in-KeepAlive-true-9.is-0, c.in-KeepAlive-true-9.is-1) c.as_bytes-in-KeepAlive-true-9.ensures.value

pub returns-in-KeepAlive-false-9 : goal.returns-in-KeepAlive-false-9
unfolding decimals_on_literals fixed_text head_text
returns-in-KeepAlive-false-9 c = rw (c.in-WantOfMemory.is, c.in-KeepAlive-false-9.is-0, c.in-KeepAlive-false-9.is-1) c.as_bytes-in-KeepAlive-false-9.ensures.value

pub returns-in-Closes-true-9 : goal.returns-in-Closes-true-9
unfolding decimals_on_literals fixed_text head_text
returns-in-Closes-true-9 c = rw (c.in-WantOfMemory.is, c.in-Closes-true-9.is-0, c.in-Closes-true-9.is-1) c.as_bytes-in-Closes-true-9.ensures.value

pub returns-in-Closes-false-9 : goal.returns-in-Closes-false-9
unfolding decimals_on_literals fixed_text head_text
returns-in-Closes-false-9 c = rw (c.in-WantOfMemory.is, c.in-Closes-false-9.is-0, c.in-Closes-false-9.is-1) c.as_bytes-in-Closes-false-9.ensures.value

pub returns-in-Stays-false-10 : goal.returns-in-Stays-false-10
unfolding decimals_on_literals fixed_text head_text
returns-in-Stays-false-10 c = rw (c.in-WantOfMemoryDone.is, c.in-Stays-false-10.is-0, c.in-Stays-false-10.is-1) c.as_bytes-in-Stays-false-10.ensures.value

pub returns-in-KeepAlive-true-10 : goal.returns-in-KeepAlive-true-10
unfolding decimals_on_literals fixed_text head_text
returns-in-KeepAlive-true-10 c = rw (c.in-WantOfMemoryDone.is, c.in-KeepAlive-true-10.is-0, c.in-KeepAlive-true-10.is-1) c.as_bytes-in-KeepAlive-true-10.ensures.value

pub returns-in-KeepAlive-false-10 : goal.returns-in-KeepAlive-false-10
unfolding decimals_on_literals fixed_text head_text
returns-in-KeepAlive-false-10 c = rw (c.in-WantOfMemoryDone.is, c.in-KeepAlive-false-10.is-0, c.in-KeepAlive-false-10.is-1) c.as_bytes-in-KeepAlive-false-10.ensures.value

pub returns-in-Closes-true-10 : goal.returns-in-Closes-true-10
unfolding decimals_on_literals fixed_text head_text
returns-in-Closes-true-10 c = rw (c.in-WantOfMemoryDone.is, c.in-Closes-true-10.is-0, c.in-Closes-true-10.is-1) c.as_bytes-in-Closes-true-10.ensures.value

pub returns-in-Closes-false-10 : goal.returns-in-Closes-false-10
unfolding decimals_on_literals fixed_text head_text
returns-in-Closes-false-10 c = rw (c.in-WantOfMemoryDone.is, c.in-Closes-false-10.is-0, c.in-Closes-false-10.is-1) c.as_bytes-in-Closes-false-10.ensures.value
