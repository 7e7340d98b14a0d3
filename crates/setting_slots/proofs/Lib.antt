mod Unavailable
