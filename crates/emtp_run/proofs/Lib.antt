mod AfterReading
mod Contents
mod Creating
mod Decks
mod Endings
mod Readings
mod Recording
