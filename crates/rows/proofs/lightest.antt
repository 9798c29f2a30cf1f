-- What handing over the lightest row stands on.
pub mod HandedCurve
