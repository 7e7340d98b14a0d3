mod Settled
mod Checked
