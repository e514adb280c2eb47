mod Causes
mod Ends
mod Files
mod Lines
mod Promised
mod Refused
mod SessionRuns
