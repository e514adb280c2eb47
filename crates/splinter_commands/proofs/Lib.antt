pub mod Late
mod Begun
mod Bounded
mod ByFiles
mod Combined
mod Drawless
mod SessionsEnd
mod Stops
mod Unordered
mod Within
