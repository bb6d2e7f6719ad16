-- What the program needs so that it stays within its arrays and ends.
mod Lent
