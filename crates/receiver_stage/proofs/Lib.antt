mod Halves
mod Numbers
