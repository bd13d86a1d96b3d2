mod Passes
mod Pushed
