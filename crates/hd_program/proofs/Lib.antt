mod IsWork
mod Ends
