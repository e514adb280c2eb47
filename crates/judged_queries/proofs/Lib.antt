pub mod Readings
pub mod TakenCodes
pub mod Canonical
