mod Moves
mod Rows
mod BodiesWithin
