mod Counting
mod Endings
mod Laws
mod Running
mod Standings
