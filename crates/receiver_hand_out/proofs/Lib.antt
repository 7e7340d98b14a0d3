mod Counting
mod Frames
mod Handing
mod Joined
mod Marks
mod Packets
mod Parts
