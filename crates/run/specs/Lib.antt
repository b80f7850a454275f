-- How the code goes through a run: `Inner` and `Later` what its functions promise, `Bounds` how much there is at most, `Claims` what holds of every run.
pub mod Bounds
pub mod Later
pub mod Inner
pub mod Claims
