mod Holding
mod Leaving
mod Sharing
