mod Fitting
mod Stages
mod Rests
mod Lines
