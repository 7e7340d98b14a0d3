mod Granted
mod Joined
mod Receipts
mod Sorts
mod Taking
