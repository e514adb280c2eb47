mod Layouts
mod Answered
mod Ended
