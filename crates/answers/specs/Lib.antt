-- What a run means: `Answer` what a trace line is answered, `Input` the lines of an input, `Whole` a run from its input to its output, `Claims` what holds
-- of every run.
pub mod Answer
pub mod Input
pub mod Whole
pub mod Inner
pub mod Claims
